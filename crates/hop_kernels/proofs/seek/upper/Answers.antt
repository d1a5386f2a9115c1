use Rattle.std.proofs.Common.{leb, rules}
use Rattle.std.proofs.lemmas.Bool.{leb-false}
use Rattle.std.proofs.lemmas.List.Sorted.{IsPartitionPoint-from_clause, IsPartitionedBy-leb}
use Rattle.partition.specs.declared.link.Link.{Link}
use Rattle.hop_kernels.proofs.seek.upper.Goals as goal

pub returns-clause-above : goal.returns-clause-above
returns-clause-above c =
    let parted = IsPartitionedBy-leb (λ (l : Link). l.other) _ c.args.end c.requires in
    let point = IsPartitionPoint-from_clause (λ (l : Link). leb l.other c.args.end) _ _ c.partition_point.ensures.partitioned parted (λ a r q k. search rules) in
    λ i d from within. leb-false _ _ (point.1 i d from within)
