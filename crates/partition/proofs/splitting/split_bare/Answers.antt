use Rattle.std.proofs.Common.{◌∙◌, ℕ, List, ap, arith, length, map, sym}
use Rattle.std.specs.List.{range_with_len}
use Rattle.partition.specs.Parts.{owners_in, part_with, parts_of}
use Rattle.partition.proofs.PartFacts.{met}
use Rattle.partition.proofs.splitting.split_bare.Goals as goal

pub put_together-requires-clause-few : goal.put_together-requires-clause-few
put_together-requires-clause-few c = omega (arith, c.vertices-vertices.ensures)

pub returns : goal.returns
returns c = λ graph vertices edges.
    met c.put_together.result (λ parts. parts.items) _ (parts_of graph c.args.owner.now c.args.machines)
    (ap (λ (os : List ℕ). map (λ m. part_with os c.args.machines graph m) (range_with_len 0 c.args.machines))
    (c.in_ok-dealing.ensures.owners ∙ ap (λ n. owners_in c.args.owner.now n c.args.machines) (ap length (sym vertices))))
    (c.put_together.ensures graph vertices edges)
