use Rattle.std.proofs.Common.{◌<◌, ℕ, length, subst}
use Rattle.std.specs.List.{AllByRecursion}
use Rattle.partition.specs.Kept.{numbers_of}
use Rattle.partition.proofs.ListFacts.{own_below}
use Rattle.partition.proofs.lists.own_of.Goals as goal
use Rattle.partition.proofs.lists.own_of.Goals.{In_ok-numbers}

below : (c : In_ok-numbers) → AllByRecursion (λ v. v < length c.args.graph.now.vertices) (numbers_of c.args.owners.now c.args.machine)
below c = subst (λ (n : ℕ). AllByRecursion (λ v. v < n) (numbers_of c.args.owners.now c.args.machine)) c.requires.owners (own_below c.args.owners.now c.args.machine)

pub link_all-requires-clause-numbers : goal.link_all-requires-clause-numbers
link_all-requires-clause-numbers c = rw (c.deref.ensures.value, c.in_ok-numbers.ensures) (below (goal.at.link_all-requires-clause-numbers c).In_ok-numbers)

pub link_all-requires-2-clause-numbers : goal.link_all-requires-2-clause-numbers
link_all-requires-2-clause-numbers c =
    let all : AllByRecursion (λ v. v < length c.args.graph.now.vertices) c.deref-2.result.now =
    rw (c.deref-2.ensures.value, c.in_ok-numbers.ensures) (below (goal.at.link_all-requires-2-clause-numbers c).In_ok-numbers) in
    all
