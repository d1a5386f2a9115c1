use Rattle.std.proofs.Common.{◌≡◌, ◌∙◌, ◌<◌, ◌-◌, suc, sym, ap, arith, rules, length, slice_index_or}
use Rattle.element_store.specs.Tables.{Rows}
use Rattle.element_store.proofs.TableFacts.{last_columns-is}
use Rattle.element_store.proofs.elements.Elements.columns.Goals as goal

pub returns : goal.returns
returns c =
    let some : 0 < length c.self.inside.tables.items = rw (← c.self.view_is) at c.requires in
    let last : length c.self.inside.tables.items ≡ suc (length c.self.inside.tables.items - 1) = omega (arith, some) in
    let here : c.index.result.now ≡ slice_index_or c.self.inside.tables.items (length c.self.inside.tables.items - 1) c.index.result.now = search rules in
    rw (← c.self.view_is) (c.columns.ensures ∙ ap (λ (t : Rows). t.columns) here ∙ sym (last_columns-is c.self.inside.tables.items _ c.index.result.now last))
