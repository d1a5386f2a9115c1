use Rattle.std.proofs.Common.{◌^◌, ◌<◌, arith, Some}
use Rattle.partition.specs.OwnerFile.{named_by}
use Rattle.partition.proofs.OwnerFacts.{owner_capped}
use Rattle.partition.proofs.owner_file.take_line.Goals as goal

pub returns-in-Some-clause-gives : goal.returns-in-Some-clause-gives
returns-in-Some-clause-gives c =
    let few : c.args.machines < 2 ^ 32 = omega arith in
    let same = owner_capped c.args.number c.args.machines c.args.owners.now (named_by c.args.graph.now.vertices c.args.line.now) (Some (c.in-Some.named.vertex, c.in-Some.named.machine)) few c.in-Some.ensures.named in
    rw (← c.if-is_empty.ensures, ← same) c.take_owner.ensures.gives
