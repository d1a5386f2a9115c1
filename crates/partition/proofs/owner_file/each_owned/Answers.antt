use Rattle.std.proofs.Common.{◌≡◌, ◌∙◌, rules, arith, sym, ap, Some, None, length, slice_get, w64}
use Rattle.std.specs.Int.RustNames.{FitsSigned}
use Rattle.std.proofs.lemmas.Int.{to_z-of_z}
use Rattle.std.proofs.lemmas.List.{take_all}
use Rattle.std.proofs.lemmas.Option.{slice_get-get_or}
use Rattle.partition.proofs.OwnerFacts.{key_read, owned_done, owned_missing}
use Rattle.partition.proofs.owner_file.each_owned.Goals as goal

pub returns-in-None : goal.returns-in-None
returns-in-None c =
    let front = rw (← c.loop-vertex.invariant.count) at c.loop-vertex.invariant.so_far in
    let none : slice_get c.args.owners.now (length c.loop-vertex.machines.items) ≡ Some None =
    rw c.loop-vertex.invariant.count (slice_get-get_or c.args.owners.now c.loop-vertex.vertex None (omega (arith, c.requires)) ∙ ap Some c.in-None.is) in
    let fits : FitsSigned w64 c.vertex.result.0 = search rules in
    let key = rw (← c.loop-vertex.invariant.count) at c.vertex.ensures in
    rw (to_z-of_z w64 c.vertex.result.0 fits)
    (owned_missing c.args.graph.now.vertices c.args.owners.now c.loop-vertex.machines.items c.vertex.result.0 front none (key_read c.args.graph.now.vertices (length c.loop-vertex.machines.items) c.vertex.result key))

pub returns : goal.returns
returns c =
    let all = take_all c.loop-vertex.vertex c.args.owners.now (omega (arith, c.requires)) in
    owned_done c.args.graph.now.vertices c.args.owners.now c.loop-vertex.machines.items c.requires (sym all ∙ c.loop-vertex.invariant.so_far)
