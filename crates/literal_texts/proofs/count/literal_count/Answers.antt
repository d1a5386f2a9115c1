use Rattle.std.proofs.Common.{◌∙◌, ◌-◌, ◌^◌, length, sym, ap}
use Rattle.std.specs.Prelude.{flat_map, min}
use Rattle.pgql_tree.specs.Literals.{condition_literals, literals}
use Rattle.literal_texts.proofs.Counts.{min-add3}
use Rattle.literal_texts.proofs.Cases.{length-query}
use Rattle.literal_texts.proofs.count.literal_count.Goals as goal

pub returns : goal.returns
returns c =
    let a = length (flat_map (λ item. literals item.expr) c.args.ast.now.items) in
    let b = length (condition_literals c.args.ast.now.condition) in
    let d = length (flat_map (λ key. literals key.expr) c.args.ast.now.keys) in
    rw (c.saturating_add-2.ensures, c.saturating_add.ensures, c.count_in_items-selected.ensures, c.count_in_condition-tested.ensures, c.count_in_keys-keys.ensures, c.as_slice.ensures, c.as_slice-2.ensures)
    (min-add3 a b d (2 ^ 32 - 1) ∙ ap (λ n. min n (2 ^ 32 - 1)) (sym (length-query c.args.ast.now)))
