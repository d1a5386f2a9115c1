-- Words that may be missing.
use Rattle.std.specs.Prelude.{◌≡◌, ℕ, Bool, true, false, if◌then◌else◌, List, [], ◌∷◌, length, Option, Some, None}

-- each word where its flag is true
abbrev pub words_where : List Bool → List ℕ → List (Option ℕ)
words_where [] words = []
words_where (b ∷ bs) [] = []
words_where (b ∷ bs) (w ∷ ws) = (if b then Some w else None) ∷ words_where bs ws

-- Where a word is missing, the word that says so stands in its place.
abbrev pub AreMarked : List Bool → List ℕ → Type 0
AreMarked [] words = Unit {0}
AreMarked (b ∷ bs) [] = Unit {0}
AreMarked (true ∷ bs) (w ∷ ws) = AreMarked bs ws
AreMarked (false ∷ bs) (w ∷ ws) = (w ≡ 18446744071562067968) × AreMarked bs ws

-- What cells keep: a flag for each word.
pub record AreCells (present : List Bool) (words : List ℕ) : Type 0 where
  pub a_flag_each : length present ≡ length words
  pub marked : AreMarked present words
