use Rattle.std.proofs.Common.{◌≡◌, ◌≢◌, ◌==◌, ◌∙◌, sym, arith, false, slice_index, nat_eq, position, Some}
use Rattle.std.proofs.lemmas.Bool.Decides.{nat_tests}
use Rattle.std.proofs.lemmas.List.{get_or_read}
use Rattle.partition.proofs.ReadFacts.{place_absent, place_found, place_within}
use Rattle.partition.proofs.part.Part.place_of.Goals as goal
use Rattle.partition.proofs.part.Part.place_of.Goals.{After-index-then-index-self}

found : (c : After-index-then-index-self) → Some c.index-then-index-self.result.now ≡ position (nat_eq c.args.vertex) c.self.inside.own.numbers.items
found c =
    let dealing = c.self.inside.shared.value.dealing in
    let dealt = c.self.invariant.dealt in
    let less = rw (← c.self.view_is) at c.requires in
    let own_read = get_or_read dealing.owners.items c.args.vertex _ less (rw c.deref.ensures at c.index.ensures) 0 in
    let place_read = get_or_read dealing.places.items c.args.vertex _ (omega (arith, less, dealt.an_owner_each, dealt.a_place_each)) (rw c.deref-then-index-self.ensures at c.index-then-index-self.ensures) 0 in
    place_found c.self.inside.machines c.self.inside.shared.value c.self.inside.own c.self.invariant c.args.vertex c.index-then-index-self.result.now less (sym own_read ∙ c.if-index-self.true) place_read

pub returns-then-index-self-clause-place : goal.returns-then-index-self-clause-place
returns-then-index-self-clause-place c = rw (← c.self.view_is) (found (goal.at.returns-then-index-self-clause-place c).After-index-then-index-self)

pub returns-then-index-self-clause-within : goal.returns-then-index-self-clause-within
returns-then-index-self-clause-within c =
    rw (← c.self.view_is) (place_within c.self.inside.machines c.self.inside.shared.value c.self.inside.own c.args.vertex c.index-then-index-self.result.now
    (found (goal.at.returns-then-index-self-clause-within c).After-index-then-index-self))

pub returns-else-index-self-clause-place : goal.returns-else-index-self-clause-place
returns-else-index-self-clause-place c =
    let dealing = c.self.inside.shared.value.dealing in
    let less = rw (← c.self.view_is) at c.requires in
    let own_read : c.index.result.now ≡ slice_index dealing.owners.items c.args.vertex = get_or_read dealing.owners.items c.args.vertex _ less (rw c.deref.ensures at c.index.ensures) 0 in
    let differs : c.index.result.now ≢ c.self.inside.own.machine = c.if-index-self.false in
    let other : (slice_index dealing.owners.items c.args.vertex == c.self.inside.own.machine) ≡ false = grind (arith, nat_tests) in
    rw (← c.self.view_is) (place_absent c.self.inside.machines c.self.inside.shared.value c.self.inside.own c.self.invariant c.args.vertex less other)
