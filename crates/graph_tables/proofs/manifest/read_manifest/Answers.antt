use Rattle.std.proofs.Common.{ap, arith, length}
use Rattle.graph_tables.proofs.manifest.read_manifest.Goals as goal

pub take_lines-requires : goal.take_lines-requires
take_lines-requires c =
    let few = rw c.new-lines.ensures.left at c.new-lines.ensures.few in
    let all = rw c.new-lines.ensures.left at (ap length c.in-Some.ensures.line) in
    omega (arith, few, all, c.requires)
