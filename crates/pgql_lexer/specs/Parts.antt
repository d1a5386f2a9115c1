-- The part of a file that is being read, mark by mark.
use Rattle.std.specs.Prelude.{ℕ, ◌+◌, true, false, List, []}
use Rattle.pgql_lexer.specs.declared.pieces.Mark.{Mark}
use Rattle.pgql_lexer.specs.declared.pieces.Mark.TheVariants as mark
use Rattle.pgql_lexer.specs.declared.pieces.Part.{Part}
use Rattle.pgql_lexer.specs.Pieces.{kept}

-- the part that is read after so many bytes of this mark
abbrev pub part_after : Mark → ℕ → Part → Part
part_after mark.Blank count part = record { start = part.start; end = part.end + count; is_query = part.is_query }
part_after mark.Matter count part = record { start = part.start; end = part.end + count; is_query = true }
part_after mark.End count part = record { start = part.end + count; end = part.end + count; is_query = false }

-- the piece that this mark ends
abbrev pub ended_by : Mark → Part → List (ℕ × ℕ)
ended_by mark.End part = kept part.start part.end part.is_query
ended_by other part = []
