use Rattle.std.proofs.Common.{ltb, arith, rules}
use Rattle.std.proofs.lemmas.Bool.{ltb-true}
use Rattle.std.proofs.lemmas.List.Sorted.{IsPartitionPoint-from_clause, IsPartitionedBy-ltb}
use Rattle.partition.specs.declared.link.Link.{Link}
use Rattle.hop_kernels.proofs.seek.lower.Goals as goal

pub returns-clause-below : goal.returns-clause-below
returns-clause-below c =
    let parted = IsPartitionedBy-ltb (λ (l : Link). l.other) _ c.args.end c.requires in
    let point = IsPartitionPoint-from_clause (λ (l : Link). ltb l.other c.args.end) _ _ c.partition_point.ensures.partitioned parted (λ a r q k. search rules) in
    λ i d below. ltb-true _ _ (point.0 i d (omega arith) below)
