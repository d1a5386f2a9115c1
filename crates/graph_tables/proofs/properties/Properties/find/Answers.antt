use Rattle.std.proofs.Common.{◌≡◌, ◌+◌, sym, arith}
use Rattle.std.proofs.lemmas.Map.Entries.{length-keys_of}
use Rattle.std.specs.Map.{keys_of}
use Rattle.element_store.proofs.PositionFacts.{no_place, place_is}
use Rattle.graph_tables.proofs.PropertyFacts.{is_named, property_absent, property_found}
use Rattle.graph_tables.proofs.properties.Properties.find.Goals as goal

pub returns-in-Some : goal.returns-in-Some
returns-in-Some c =
    let es = c.self.inside.kinds.entries in
    let place = place_is (is_named (λ k. k.items) c.args.name.now) (keys_of es) c.in-Some.number (sym c.in-Some.ensures.index) in
    let found = property_found (λ k. k.items) c.args.name.now 0 es c.in-Some.number _ place c.in-Some.ensures.entry in
    let zero_more : 0 + c.in-Some.number ≡ c.in-Some.number = omega arith in
    rw (← c.self.view_is) (sym (rw zero_more at found))

pub returns-in-None : goal.returns-in-None
returns-in-None c =
    let es = c.self.inside.kinds.entries in
    let past = no_place (is_named (λ k. k.items) c.args.name.now) (keys_of es) (sym c.in-None.ensures.index) in
    rw (← c.self.view_is) (sym (property_absent (λ k. k.items) c.args.name.now 0 es (omega (arith, past, length-keys_of es))))
