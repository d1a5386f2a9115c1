use Rattle.std.proofs.Common.{◌∙◌, sym, [], ◌∷◌}
use Rattle.std.proofs.lemmas.List.{map-append}
use Rattle.partition.specs.Kept.{IsOwn}
use Rattle.partition.specs.declared.lists.Own.{Own}
use Rattle.partition.proofs.AdjacencyFacts.{All-push}
use Rattle.partition.proofs.DealingFacts.{range_more}
use Rattle.partition.proofs.lists.own_each.Goals as goal

pub loop-machine-preserved : goal.loop-machine-preserved
loop-machine-preserved c =
    let made = c.in_ok-own_of.field-0 in
    record {
      machines = rw c.in_ok-push.ensures.items (map-append (λ (own : Own). own.machine) c.loop-machine.all.items (made ∷ [])
          ∙ rw (c.loop-machine.invariant.machines, c.in_ok-own_of.ensures.machine) (sym (range_more c.loop-machine.machine)));
      own = rw c.in_ok-push.ensures.items (All-push (IsOwn c.args.owners.now c.args.graph.now.edges) c.loop-machine.all.items made c.loop-machine.invariant.own c.in_ok-own_of.ensures.own);
    }
