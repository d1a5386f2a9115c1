use Rattle.std.proofs.Common.{◌≡◌, ◌+◌, ◌<◌, length}
use Rattle.std.specs.Str.Lines.{lines}
use Rattle.partition.specs.OwnerFile.{with_lines}
use Rattle.partition.proofs.owner_file.take_lines.Given as goal

abbrev pub invariant-lines : goal.invariant-lines
invariant-lines l = record {
  rest : with_lines l.number l.machines l.graph.vertices l.lines l.owners ≡ with_lines 1 l.machines l.graph.vertices (lines l.bytes) l.fn.owners;
  size : length l.owners ≡ length l.graph.vertices;
  short : length l.lines + l.number < 4294967296;
}

abbrev pub decreases-lines : goal.decreases-lines
decreases-lines l = length l.lines
