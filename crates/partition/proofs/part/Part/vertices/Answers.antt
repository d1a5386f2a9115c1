use Rattle.std.proofs.Common.{arith}
use Rattle.partition.proofs.ReadFacts.{numbers_few}
use Rattle.partition.proofs.part.Part.vertices.Goals as goal

pub overflow_cast-result : goal.overflow_cast-result
overflow_cast-result c =
    let few = numbers_few c.self.inside.machines c.self.inside.shared.value c.self.inside.own c.self.invariant in
    omega (arith, few, c.len.ensures, c.self.inside.own.numbers.ok.0)
