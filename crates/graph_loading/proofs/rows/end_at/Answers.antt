use Rattle.std.proofs.Common.{◌∙◌, sym, ap, rules, w64, Err}
use Rattle.std.specs.Int.RustNames.{FitsSigned}
use Rattle.std.proofs.lemmas.Int.{to_z-of_z}
use Rattle.graph_loading.proofs.RowLaws.{end_known}
use Rattle.graph_loading.proofs.rows.end_at.Goals as goal

pub returns-in-Some-clause-number : goal.returns-in-Some-clause-number
returns-in-Some-clause-number c =
    let fits : FitsSigned w64 c.in_ok-key.key = search rules in
    let key = to_z-of_z w64 c.in_ok-key.key fits in
    end_known c.args.at c.args.column c.args.vertices.now.elements c.args.cell.now c.in_ok-key.key _ c.in_ok-key.ensures (sym (rw key at c.in-Some.ensures))

pub returns-in-None-clause-number : goal.returns-in-None-clause-number
returns-in-None-clause-number c =
    let fits : FitsSigned w64 c.in_ok-key.key = search rules in
    let key = to_z-of_z w64 c.in_ok-key.key fits in
    rw c.fault.ensures (end_known c.args.at c.args.column c.args.vertices.now.elements c.args.cell.now c.in_ok-key.key _ c.in_ok-key.ensures (sym (rw key at c.in-None.ensures)) ∙ ap Err (sym c.fault.ensures))
