-- The pieces of a query file, one for each query.
use Rattle.std.specs.Prelude.{ℕ, zero, suc, ◌+◌, ◌-◌, Bool, true, false, if◌then◌else◌, ◌==◌, List, [], ◌∷◌, ◌++◌, drop, slice_index, length, Option, Some, None, unwrap_or}
use Rattle.std.specs.List.{list_any}
use Rattle.pgql_lexer.specs.declared.pieces.Mark.{Mark}
use Rattle.pgql_lexer.specs.declared.pieces.Mark.TheVariants as mark
use Rattle.pgql_lexer.specs.Fronts.{Bytes, is_space, is_quote, opens_comment, literal_end, comment_end}

abbrev pub is_semicolon : ℕ → Bool
is_semicolon byte = byte == 59

-- a comment's mark and how many bytes it has, by the place after it, if it is closed
abbrev pub comment_marked : Bytes → Option ℕ → Mark × ℕ
comment_marked text None = (mark.Matter, length text)
comment_marked text (Some end) = (mark.Blank, end)

-- What stands at the front of a text: its mark, and how many bytes have it. A literal or a comment that isn't
-- closed goes on to the end, and such a comment isn't blank.
unfoldable pub marked_front : Bytes → Mark × ℕ
marked_front text =
    let byte = slice_index text 0 in
    if is_semicolon byte then (mark.End, 1)
    else (if is_space byte then (mark.Blank, 1)
    else (if is_quote byte then (mark.Matter, unwrap_or (literal_end false 1 (drop 1 text)) (length text))
    else (if opens_comment byte (slice_index text 1) then comment_marked text (comment_end 2 (drop 2 text))
    else (mark.Matter, 1))))

-- the marks of a text's bytes, where so many at its front have this one
abbrev pub marks_from : Mark → ℕ → Bytes → List Mark
marks_from mark passed [] = []
marks_from mark (suc passed) (byte ∷ bytes) = mark ∷ marks_from mark passed bytes
marks_from mark zero (byte ∷ bytes) = let front = marked_front (byte ∷ bytes) in front.0 ∷ marks_from front.0 (front.1 - 1) bytes

-- the mark of each byte of a text
abbrev pub marks : Bytes → List Mark
marks text = marks_from mark.Blank 0 text

abbrev pub onto_first : Mark → List (List Mark) → List (List Mark)
onto_first mark [] = (mark ∷ []) ∷ []
onto_first mark (part ∷ parts) = (mark ∷ part) ∷ parts

-- the marks cut at each End, which belongs to no part
abbrev pub parts : List Mark → List (List Mark)
parts [] = [] ∷ []
parts (mark.End ∷ marks) = [] ∷ parts marks
parts (mark.Blank ∷ marks) = onto_first mark.Blank (parts marks)
parts (mark.Matter ∷ marks) = onto_first mark.Matter (parts marks)

abbrev pub is_matter : Mark → Bool
is_matter mark.Matter = true
is_matter other = false

-- a part from one place to another is a piece where it holds some matter
abbrev pub kept : ℕ → ℕ → Bool → List (ℕ × ℕ)
kept start end holds_matter = if holds_matter then (start, end) ∷ [] else []

-- where those of the parts lie that hold some matter, the first of them at this place and a byte after each
abbrev pub placed : ℕ → List (List Mark) → List (ℕ × ℕ)
placed start [] = []
placed start (part ∷ parts) =
    let end = start + length part in
    kept start end (list_any is_matter part) ++ placed (end + 1) parts

-- the first byte of each piece and the place after its last
unfoldable pub pieces : Bytes → List (ℕ × ℕ)
pieces text = placed 0 (parts (marks text))
