use Rattle.std.proofs.Common.{◌≡◌, ◌<◌, ◌∙◌, sym, ap, ℕ, List, length, slice_get, Some}
use Rattle.std.proofs.lemmas.List.{get_or_read}
use Rattle.std.proofs.lemmas.Option.{slice_get-get_or}
use Rattle.element_store.specs.Columns.{Cell}
use Rattle.partition.proofs.ReadFacts.{number_within, vertex_read, vertices_each}
use Rattle.partition.proofs.part.Part.vertex_row.Goals as goal
use Rattle.partition.proofs.part.Part.vertex_row.Goals.{After-index-number}

number : (c : After-index-number) → slice_get c.self.inside.own.numbers.items c.args.place ≡ Some c.index-number.result.now
number c =
    let numbers = c.self.inside.own.numbers.items in
    let less = rw (← c.self.view_is, vertices_each c.self.inside.machines c.self.inside.shared.value c.self.inside.own) at c.requires in
    let read = get_or_read numbers c.args.place _ less c.index-number.ensures 0 in
    slice_get-get_or numbers c.args.place 0 less ∙ ap Some (sym read)

within : (c : After-index-number) → c.index-number.result.now < length c.self.inside.shared.value.vertices
within c = number_within c.self.inside.machines c.self.inside.shared.value c.self.inside.own c.self.invariant c.args.place c.index-number.result.now (number c)

pub row-requires : goal.row-requires
row-requires c = rw c.deref.ensures (within (goal.at.row-requires c).After-index-number)

pub returns : goal.returns
returns c =
    let at = (goal.at.returns c).After-index-number in
    rw (← c.self.view_is)
    (vertex_read c.self.inside.machines c.self.inside.shared.value c.self.inside.own {V = ℕ × List (ℕ × Cell)} (λ v. (v.label, v.values)) c.args.place c.index-number.result.now c.row.result (number at) (within at)
    (rw c.deref.ensures at c.row.ensures))
