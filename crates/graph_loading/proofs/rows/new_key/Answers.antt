use Rattle.std.proofs.Common.{◌≡◌, ◌∙◌, sym, ap, rules, w64, true, is_some, Err}
use Rattle.std.specs.Int.RustNames.{FitsSigned}
use Rattle.std.proofs.lemmas.Int.{to_z-of_z}
use Rattle.graph_loading.proofs.RowLaws.{double_key}
use Rattle.graph_loading.proofs.rows.new_key.Goals as goal

pub returns-then-is_some-clause-key : goal.returns-then-is_some-clause-key
returns-then-is_some-clause-key c =
    let fits : FitsSigned w64 c.in_ok-key.key = search rules in
    let key = to_z-of_z w64 c.in_ok-key.key fits in
    let told : true ≡ is_some c.number_of.result = c.if-is_some.ensures in
    let has = rw (c.number_of.ensures, key) at told in
    rw c.fault.ensures (double_key c.args.at c.args.elements.now.elements c.args.cell.now c.in_ok-key.key c.in_ok-key.ensures (sym has) ∙ ap Err (sym c.fault.ensures))
