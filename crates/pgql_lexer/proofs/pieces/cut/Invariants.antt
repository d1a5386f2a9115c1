use Rattle.std.proofs.Common.{◌≡◌, ◌+◌, ◌++◌, length}
use Rattle.pgql_lexer.specs.declared.pieces.Mark.TheVariants as mark
use Rattle.pgql_lexer.specs.Pieces.{marks_from, pieces}
use Rattle.pgql_lexer.proofs.Parts.{IsBegun, part_on}
use Rattle.pgql_lexer.proofs.pieces.cut.Given as goal

abbrev pub invariant-loop-rest : goal.invariant-loop-rest
invariant-loop-rest l = record {
  so_far : pieces l.text ≡ l.found.items ++ part_on l.part (marks_from mark.Blank 0 l.rest);
  begun : IsBegun l.found.items l.part;
  left : l.part.end + length l.rest ≡ length l.text;
}

abbrev pub decreases-loop-rest : goal.decreases-loop-rest
decreases-loop-rest l = length l.rest
