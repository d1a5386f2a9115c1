use Rattle.std.proofs.Common.{◌≡◌, ◌∙◌, arith, refl, length-append, ◌∷◌, []}
use Rattle.element_store.proofs.ElementFacts.{length-joined}
use Rattle.element_store.proofs.TableFacts.{columns_begun, label_begun, rows_begun, stacked_begun}
use Rattle.element_store.proofs.elements.Elements.begin_table.Goals as goal

pub overflow_cast-first : goal.overflow_cast-first
overflow_cast-first c =
    let size = length-joined c.self.inside.keys.keys _ c.self.invariant.a_row_each in
    let less = rw (← c.self.view_is, size) at c.requires in
    omega (arith, less, c.len-first.ensures.len)

pub invariant_of-self-2 : goal.invariant_of-self-2
invariant_of-self-2 c =
    let t = c.in_ok-table.table in
    let empty : t.rows ≡ [] = rw c.in_ok-table.ensures refl in
    let begun = rows_begun c.self.inside.tables.items t empty in
    let first : t.first ≡ c.len-first.result = rw c.in_ok-table.ensures refl in
    rw c.in_ok-push.ensures.items (record {
      a_row_each = rw begun c.self.invariant.a_row_each;
      stacked = stacked_begun 0 c.self.inside.tables.items t c.self.invariant.stacked (first ∙ c.len-first.ensures.len ∙ omega (arith, c.self.invariant.a_row_each));
      counted = rw begun c.self.invariant.counted;
    })

pub returns-clause-ok : goal.returns-clause-ok
returns-clause-ok c =
    let t = c.in_ok-table.table in
    let empty : t.rows ≡ [] = rw c.in_ok-table.ensures refl in
    rw (c.in_ok-push.ensures.items, rows_begun c.self.inside.tables.items t empty, label_begun c.self.inside.tables.items t, columns_begun c.self.inside.tables.items t, length-append c.self.inside.tables.items (t ∷ []), c.in_ok-table.ensures, ← c.self.view_is) refl
