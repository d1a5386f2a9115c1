use Rattle.std.proofs.Common.{◌≡◌, ◌∙◌, ◌<◌, ◌-◌, suc, sym, ap, arith, length, int_eq, w64}
use Rattle.std.proofs.lemmas.Int.{to_z-of_z}
use Rattle.element_store.specs.Tables.{Rows}
use Rattle.element_store.proofs.ElementFacts.{filled_after, keys_in-joined, length-joined, length-named, view_after}
use Rattle.element_store.proofs.PositionFacts.{keys_after}
use Rattle.element_store.proofs.TableFacts.{last_columns-is, rows_among}
use Rattle.element_store.proofs.elements.Elements.add.Goals as goal

pub push-requires-clause-kinds : goal.push-requires-clause-kinds
push-requires-clause-kinds c =
    let some : 0 < length c.self.inside.tables.items = rw (← c.self.view_is) at c.requires.table in
    let last : length c.self.inside.tables.items ≡ suc (c.len-last.result - 1) = omega (arith, some, c.len-last.ensures) in
    let columns = last_columns-is c.self.inside.tables.items (c.len-last.result - 1) c.index_mut.result.now last ∙ ap (λ (t : Rows). t.columns) (sym c.index_mut.ensures.value) in
    rw (← columns) (rw (← c.self.view_is) at c.requires.kinds)

pub push-requires-clause-few : goal.push-requires-clause-few
push-requires-clause-few c =
    let some : 0 < length c.self.inside.tables.items = rw (← c.self.view_is) at c.requires.table in
    let size = length-joined c.self.inside.keys.keys _ c.self.invariant.a_row_each in
    let few = rw (← c.self.view_is, size) at c.requires.few in
    let among = rows_among c.self.inside.tables.items c.index_mut.result.now (c.len-last.result - 1) (omega (arith, some, c.len-last.ensures)) in
    rw c.index_mut.ensures.value (omega (arith, among, few, c.self.invariant.a_row_each))

pub invariant_of-self-2 : goal.invariant_of-self-2
invariant_of-self-2 c =
    let some : 0 < length c.self.inside.tables.items = rw (← c.self.view_is) at c.requires.table in
    let last : length c.self.inside.tables.items ≡ suc (c.len-last.result - 1) = omega (arith, some, c.len-last.ensures) in
    let columns = last_columns-is c.self.inside.tables.items (c.len-last.result - 1) c.index_mut.result.now last ∙ ap (λ (t : Rows). t.columns) (sym c.index_mut.ensures.value) in
    let kinds = rw (columns) at (rw (← c.self.view_is) at c.requires.kinds) in
    let key = to_z-of_z w64 c.args.key c.ranges.key in
    let fresh = rw (← c.self.view_is, keys_in-joined c.self.inside.keys.keys _ c.self.invariant.a_row_each) at c.requires.fresh in
    let keys = rw (key, c.in_ok-reserve.ensures.keys) at c.in_ok-insert_full.ensures.keys in
    rw (keys ∙ keys_after int_eq c.args.key c.self.inside.keys.keys fresh, c.in_ok-push.ensures.ok)
    (filled_after c.self.inside.keys.keys c.self.inside.tables.items c.self.inside.cells (c.len-last.result - 1) c.index_mut.result.now c.args.key c.args.values.now c.self.invariant last
    c.index_mut.ensures.value (length-named c.index_mut.result.now.columns c.args.values.now kinds))

pub returns-clause-ok : goal.returns-clause-ok
returns-clause-ok c =
    let some : 0 < length c.self.inside.tables.items = rw (← c.self.view_is) at c.requires.table in
    let last : length c.self.inside.tables.items ≡ suc (c.len-last.result - 1) = omega (arith, some, c.len-last.ensures) in
    let key = to_z-of_z w64 c.args.key c.ranges.key in
    let fresh = rw (← c.self.view_is, keys_in-joined c.self.inside.keys.keys _ c.self.invariant.a_row_each) at c.requires.fresh in
    let keys = rw (key, c.in_ok-reserve.ensures.keys) at c.in_ok-insert_full.ensures.keys in
    rw (keys ∙ keys_after int_eq c.args.key c.self.inside.keys.keys fresh, c.in_ok-push.ensures.ok, ← c.self.view_is)
    (view_after c.self.inside.keys.keys c.self.inside.tables.items (c.len-last.result - 1) c.index_mut.result.now c.args.key c.args.values.now c.self.invariant.a_row_each last c.index_mut.ensures.value)
