use Rattle.std.proofs.Common.{◌<◌, ◌∙◌, sym, arith}
use Rattle.std.proofs.lemmas.List.FromFn.{map-range_with_len_more}
use Rattle.partition.specs.Owners.{machine_of}
use Rattle.partition.proofs.AdjacencyFacts.{All-push}
use Rattle.partition.proofs.dealing.owner_list.Goals as goal

pub loop-vertex-preserved : goal.loop-vertex-preserved
loop-vertex-preserved c =
    let more = map-range_with_len_more (λ v. machine_of c.args.owner.now c.args.vertices c.args.machines v) 0 c.loop-vertex.vertex c.loop-vertex.vertex (omega arith) in
    record {
      owners = c.in_ok-push.ensures.items ∙ rw (c.loop-vertex.invariant.owners, c.machine_of.ensures.machine) (sym more);
      within = rw c.in_ok-push.ensures.items (All-push (λ o. o < c.args.machines) c.loop-vertex.owners.items c.machine_of.result c.loop-vertex.invariant.within c.machine_of.ensures.within);
    }
