use Rattle.std.proofs.Common.{◌++◌, sym, arith}
use Rattle.std.specs.Prelude.{fold, flat_map}
use Rattle.std.proofs.lemmas.List.Sums.{fold-append}
use Rattle.value_text.specs.Texts.{with_text}
use Rattle.pgql_tree.specs.Literals.{condition_literals, literals}
use Rattle.literal_texts.proofs.Cases.{length-query}
use Rattle.literal_texts.proofs.literals.add_all_literals.Goals as goal

pub add_condition_literals-requires : goal.add_condition_literals-requires
add_condition_literals-requires c =
    let all = length-query c.args.ast.now in
    let few = c.requires in
    let room = rw c.as_slice.ensures at c.in_ok-add_item_literals.ensures.room in
    omega arith

pub add_key_literals-requires : goal.add_key_literals-requires
add_key_literals-requires c =
    let all = length-query c.args.ast.now in
    let few = c.requires in
    let room = rw c.as_slice.ensures at c.in_ok-add_item_literals.ensures.room in
    let more = c.in_ok-add_condition_literals.ensures.room in
    rw c.as_slice-2.ensures (omega arith)

pub returns-clause-ok : goal.returns-clause-ok
returns-clause-ok c =
    let items = flat_map (λ item. literals item.expr) c.args.ast.now.items in
    let condition = condition_literals c.args.ast.now.condition in
    let keys = flat_map (λ key. literals key.expr) c.args.ast.now.keys in
    rw (
      fold-append with_text c.args.texts.now items (condition ++ keys),
      fold-append with_text (fold with_text c.args.texts.now items) condition keys,
      sym (rw c.as_slice.ensures at c.in_ok-add_item_literals.ensures.ok),
      sym c.in_ok-add_condition_literals.ensures.ok,
    )
    (rw c.as_slice-2.ensures at c.add_key_literals.ensures.ok)
