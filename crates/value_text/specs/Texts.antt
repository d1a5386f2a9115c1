-- The distinct texts, in order of first appearance.
use Rattle.std.specs.Prelude.{◌≡◌, ℕ, if◌then◌else◌, List, [], ◌∷◌, ◌++◌, length, slice_index_or, take}
use Rattle.std.specs.List.{list_any, position_or_len}
use Rattle.std.specs.Str.{bytes_eq}

-- the number of a text: its place among the texts, or their count where it isn't one of them
abbrev pub number_of : List (List ℕ) → List ℕ → ℕ
number_of texts text = position_or_len (bytes_eq text) texts

-- the texts, with a text at their end where it isn't one of them
abbrev pub with_text : List (List ℕ) → List ℕ → List (List ℕ)
with_text texts text = if list_any (bytes_eq text) texts then texts else texts ++ text ∷ []

-- the text of a number
abbrev pub text_at : List (List ℕ) → ℕ → List ℕ
text_at texts number = slice_index_or texts number []

-- The earlier texts kept their numbers.
abbrev pub Kept : List (List ℕ) → List (List ℕ) → Type 0
Kept old new = take (length old) new ≡ old
