use Rattle.std.proofs.Common.{◌∙◌, arith, refl, length-append, ◌∷◌, []}
use Rattle.std.proofs.lemmas.List.{length-map, map-append}
use Rattle.std.specs.Str.{bytes_eq}
use Rattle.element_store.proofs.PositionFacts.{entries_without}
use Rattle.graph_tables.specs.Properties.{Property}
use Rattle.graph_tables.proofs.PropertyFacts.{property_new}
use Rattle.graph_tables.proofs.properties.Properties.push.Goals as goal

pub invariant_of-self-2 : goal.invariant_of-self-2
invariant_of-self-2 c =
    let es = c.self.inside.kinds.entries in
    let new = property_new (λ k. k.items) c.in_ok-owned.owned.items 0 es (rw (c.in_ok-owned.ensures) (rw (← c.self.view_is) at c.requires.new)) in
    let few = rw (← c.self.view_is) at c.requires.few in
    let after = entries_without (λ a b. bytes_eq a.items b.items) c.in_ok-owned.owned c.args.kind es new in
    rw (c.in_ok-insert.ensures.entries ∙ after) (omega (arith, few, length-map {B = Property} es (λ e. record { name = e.0.items; type = e.1 }), length-append es ((c.in_ok-owned.owned, c.args.kind) ∷ [])))

pub returns-clause-ok : goal.returns-clause-ok
returns-clause-ok c =
    let es = c.self.inside.kinds.entries in
    let new = property_new (λ k. k.items) c.in_ok-owned.owned.items 0 es (rw (c.in_ok-owned.ensures) (rw (← c.self.view_is) at c.requires.new)) in
    let after = entries_without (λ a b. bytes_eq a.items b.items) c.in_ok-owned.owned c.args.kind es new in
    rw (c.in_ok-insert.ensures.entries ∙ after, map-append {B = Property} (λ e. record { name = e.0.items; type = e.1 }) es ((c.in_ok-owned.owned, c.args.kind) ∷ []), c.in_ok-owned.ensures, ← c.self.view_is) refl
