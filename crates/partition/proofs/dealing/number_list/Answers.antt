use Rattle.std.proofs.Common.{◌≡◌, ◌==◌, arith, true, false, slice_index}
use Rattle.std.proofs.lemmas.Bool.Decides.{nat_tests}
use Rattle.partition.proofs.DealingFacts.{numbers_more, numbers_still}
use Rattle.partition.proofs.dealing.number_list.Goals as goal
use Rattle.partition.proofs.dealing.number_list.Goals.{then-owners-vertex+in_ok-push, else-owners-vertex}

pub loop-vertex-preserved : goal.loop-vertex-preserved
loop-vertex-preserved c =
    elim c.if-owners-vertex.branch [
      | then-owners-vertex+in_ok-push w ↦
          let is : (slice_index c.args.owners.now c.loop-vertex.vertex == c.args.machine) ≡ true = grind (arith, nat_tests) in
          let same = w.numbers-is in
          rw same (numbers_more (λ v. slice_index c.args.owners.now v == c.args.machine) c.loop-vertex.vertex c.loop-vertex.numbers.items w.push.new.self.items is c.loop-vertex.invariant w.in_ok-push.ensures.items)
      | else-owners-vertex w ↦
          let is : (slice_index c.args.owners.now c.loop-vertex.vertex == c.args.machine) ≡ false = grind (arith, nat_tests) in
          let same = w.numbers-is in
          rw same (numbers_still (λ v. slice_index c.args.owners.now v == c.args.machine) c.loop-vertex.vertex c.loop-vertex.numbers.items is c.loop-vertex.invariant)
    ]
