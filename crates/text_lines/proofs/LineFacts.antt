-- The first line of a text.
use Rattle.std.proofs.Common.{◌≡◌, refl, arith, ◌<◌, ◌≤◌, ◌+◌, ℕ, suc, Bool, true, false, cond, List, [], ◌∷◌, length, take, drop, position, Some, None, ◌==◌, nat_lt, add-one}
use Rattle.std.proofs.lemmas.Bool.Decides.{nat_tests}
use Rattle.std.specs.List.{onto_first, position_or_len, slice_split}
use Rattle.std.specs.Str.Lines.{lines, lines_of_parts, strip_carriage_return}

abbrev is_feed : ℕ → Bool
is_feed b = b == 10

abbrev place : List ℕ → ℕ
place w = position_or_len is_feed w

-- the parts of a text with a line feed
parts_at : (w : List ℕ) → place w < length w → slice_split is_feed w ≡ take (place w) w ∷ slice_split is_feed (drop (place w + 1) w)
parts_at [] h = absurd (omega arith)
parts_at (x ∷ xs) h = by (is_feed x) refl (parts_at xs)
  where
    by : (b : Bool) → is_feed x ≡ b → (place xs < length xs → slice_split is_feed xs ≡ take (place xs) xs ∷ slice_split is_feed (drop (place xs + 1) xs))
        → slice_split is_feed (x ∷ xs) ≡ take (place (x ∷ xs)) (x ∷ xs) ∷ slice_split is_feed (drop (place (x ∷ xs) + 1) (x ∷ xs))
    by true e more = rw e refl
    by false e more =
        let p : place (x ∷ xs) ≡ suc (place xs) = rw e (omega arith) in
        let less : place xs < length xs = omega (arith, p) in
        rw (p, e, more less, add-one (suc (place xs)), add-one (place xs)) refl

-- and of one without
parts_none : (w : List ℕ) → length w ≤ place w → slice_split is_feed w ≡ w ∷ []
parts_none [] h = refl
parts_none (x ∷ xs) h = by (is_feed x) refl (parts_none xs)
  where
    by : (b : Bool) → is_feed x ≡ b → (length xs ≤ place xs → slice_split is_feed xs ≡ xs ∷ []) → slice_split is_feed (x ∷ xs) ≡ (x ∷ xs) ∷ []
    by true e more =
        let p : place (x ∷ xs) ≡ 0 = rw e refl in absurd (omega (arith, p))
    by false e more =
        let p : place (x ∷ xs) ≡ suc (place xs) = rw e (omega arith) in
        rw (e, more (omega (arith, p))) refl

-- a text has a part
part : (w : List ℕ) → (y : List ℕ) × (more : List (List ℕ)) × (slice_split is_feed w ≡ y ∷ more)
part [] = ([], [], refl)
part (x ∷ xs) = by (is_feed x) refl (part xs)
  where
    by : (b : Bool) → is_feed x ≡ b → ((y : List ℕ) × (more : List (List ℕ)) × (slice_split is_feed xs ≡ y ∷ more)) → (y : List ℕ) × (more : List (List ℕ)) × (slice_split is_feed (x ∷ xs) ≡ y ∷ more)
    by true e p = ([], slice_split is_feed xs, rw e refl)
    by false e p = (x ∷ p.0, p.1, rw (e, p.2) refl)

-- the first line and the lines after it
pub lines_some : (w : List ℕ) (n : ℕ) → position is_feed w ≡ Some n → lines w ≡ strip_carriage_return (take n w) ∷ lines (drop (n + 1) w)
lines_some w n e = by (nat_lt (place w) (length w)) refl e
  where
    by : (b : Bool) → nat_lt (place w) (length w) ≡ b → cond b (Some (place w)) None ≡ Some n → lines w ≡ strip_carriage_return (take n w) ∷ lines (drop (n + 1) w)
    by true t f =
        let at : place w ≡ n = cc f in
        let less : place w < length w = grind (arith, nat_tests) in
        let p = part (drop (place w + 1) w) in
        rw (← at, parts_at w less, p.2) refl
    by false t f = cc f

-- a text without a line feed is one line
pub lines_none : (w : List ℕ) → position is_feed w ≡ None → (length w == 0) ≡ false → lines w ≡ w ∷ []
lines_none w e some = by (nat_lt (place w) (length w)) refl e
  where
    by : (b : Bool) → nat_lt (place w) (length w) ≡ b → cond b (Some (place w)) None ≡ None → lines w ≡ w ∷ []
    by true t f = cc f
    by false t f = rw (parts_none w (grind (arith, nat_tests)), some) refl

-- a text has no more parts than bytes and one more
few_parts : (p : ℕ → Bool) (w : List ℕ) → length (slice_split p w) ≤ length w + 1
few_parts p [] = omega arith
few_parts p (x ∷ xs) = by (p x) (slice_split p xs) (few_parts p xs)
  where
    by : (b : Bool) (parts : List (List ℕ)) → length parts ≤ length xs + 1 → length (cond b ([] ∷ parts) (onto_first x parts)) ≤ length (x ∷ xs) + 1
    by true parts h = omega arith
    by false [] h = omega arith
    by false (y ∷ ys) h = omega arith

-- the last part is a line where it has bytes
of_parts : (parts : List (List ℕ)) → length (lines_of_parts parts) ≤ length parts
of_parts [] = omega arith
of_parts (y ∷ []) = by (length y == 0)
  where
    by : (b : Bool) → length (cond b [] (y ∷ [])) ≤ length (y ∷ [])
    by true = omega arith
    by false = omega arith
of_parts (y ∷ z ∷ rest) = omega (arith, of_parts (z ∷ rest))

-- a text has no more lines than bytes and one more
pub few_lines : (w : List ℕ) → length (lines w) ≤ length w + 1
few_lines w = omega (arith, of_parts (slice_split (λ b. b == 10) w), few_parts (λ b. b == 10) w)
