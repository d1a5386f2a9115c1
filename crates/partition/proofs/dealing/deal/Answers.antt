use Rattle.std.proofs.Common.{◌≡◌, ◌∙◌, ap, arith, length}
use Rattle.std.proofs.lemmas.List.FromFn.{length-map-range_with_len}
use Rattle.partition.specs.Owners.{machine_of}
use Rattle.partition.proofs.dealing.deal.Goals as goal
use Rattle.partition.proofs.dealing.deal.Goals.{In_ok-owners}

sized : (c : In_ok-owners) → length c.in_ok-owners.owners.items ≡ c.args.vertices
sized c = ap length c.in_ok-owners.ensures.owners ∙ length-map-range_with_len (λ v. machine_of c.args.owner.now c.args.vertices c.args.machines v) 0 c.args.vertices

pub place_list-requires-clause-few : goal.place_list-requires-clause-few
place_list-requires-clause-few c =
    let size = sized (goal.at.place_list-requires-clause-few c).In_ok-owners in
    rw (c.deref.ensures.value, size) (omega (arith, c.ranges.vertices.fits))

pub returns-clause-dealt : goal.returns-clause-dealt
returns-clause-dealt c =
    let size = sized (goal.at.returns-clause-dealt c).In_ok-owners in
    let places = rw c.deref.ensures.value at c.in_ok-places.ensures.length in
    let placed = rw (c.deref.ensures.value, size) at c.in_ok-places.ensures.placed in
    record { an_owner_each = size; a_place_each = places ∙ size; placed = placed }
