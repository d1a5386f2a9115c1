-- Where the line after a line begins.
use Rattle.std.proofs.Common.{◌≡◌, ◌∙◌, ap, sym, arith, rules, ℕ, ◌+◌, ◌-◌, ◌≤◌, ◌==◌, false, List, [], ◌∷◌, drop, take, length, length-drop, position, Some, None}
use Rattle.std.proofs.lemmas.Bool.Decides.{nat_tests}
use Rattle.std.proofs.lemmas.Grind.{common_steps}
use Rattle.std.proofs.Math.Seq.{drop-length}
use Rattle.std.specs.Str.Lines.{lines, strip_carriage_return}
use Rattle.text_lines.proofs.LineFacts.{lines_none, lines_some}

tail_of : (line first : List ℕ) (rest others all : List (List ℕ)) → all ≡ line ∷ rest → all ≡ first ∷ others → all ≡ line ∷ others
tail_of line first rest others all is also =
    let same : line ∷ rest ≡ first ∷ others = sym is ∙ also in
    is ∙ ap (λ rest. line ∷ rest) (ap (drop 1) same)

-- where a line feed stands there is a byte
found_within : (w : List ℕ) (n : ℕ) → position (λ b. b == 10) w ≡ Some n → n + 1 ≤ length w
found_within w n at = search (rules, at)

pub next_line : (bytes : List ℕ) (from end : ℕ) (line : List ℕ) (rest : List (List ℕ)) → from ≤ length bytes → position (λ b. b == 10) (drop from bytes) ≡ Some end
    → lines (drop from bytes) ≡ line ∷ rest
    → (lines (drop from bytes) ≡ line ∷ lines (drop (from + end + 1) bytes)) × (from + end + 1 ≤ length bytes)
next_line bytes from end line rest within at is =
    let w = drop from bytes in
    let split = lines_some w end at in
    let size : length (drop from bytes) ≡ length bytes - from = length-drop from bytes in
    let on : drop (end + 1) (drop from bytes) ≡ drop (from + end + 1) bytes = grind (arith, common_steps) in (
      tail_of line (strip_carriage_return (take end w)) rest (lines (drop (end + 1) w)) (lines w) is split ∙ ap (λ w. line ∷ lines w) on,
      omega (arith, found_within w end at, size, within),
    )

-- a text with a line has a byte
not_empty : (w line : List ℕ) (rest : List (List ℕ)) → lines w ≡ line ∷ rest → (length w == 0) ≡ false
not_empty [] line rest is = search (rules, is)
not_empty (b ∷ bs) line rest is = grind (arith, nat_tests)

pub last_line : (bytes : List ℕ) (from : ℕ) (line : List ℕ) (rest : List (List ℕ)) → from ≤ length bytes → position (λ b. b == 10) (drop from bytes) ≡ None
    → lines (drop from bytes) ≡ line ∷ rest
    → (lines (drop from bytes) ≡ line ∷ lines (drop (length bytes) bytes)) × (length bytes ≤ length bytes)
last_line bytes from line rest within none is =
    let w = drop from bytes in
    let over : drop (length bytes) bytes ≡ [] = drop-length bytes in
    (tail_of line w rest [] (lines w) is (lines_none w none (not_empty w line rest is)) ∙ ap (λ w. line ∷ lines w) (sym over), omega arith)
