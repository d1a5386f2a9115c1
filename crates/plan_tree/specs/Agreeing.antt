-- Assignments that have the numbers which are bound.
use Rattle.std.specs.Prelude.{◌≡◌, ℕ, ◌<◌, ◌==◌, ◌&&◌, Bool, true, false, List, [], ◌∷◌, if◌then◌else◌}

-- the assignment has the bound numbers
abbrev pub agrees : List Bool → List ℕ → List ℕ → Bool
agrees [] [] [] = true
agrees (is_bound ∷ bound) (n ∷ numbers) (m ∷ assignment) = (if is_bound then n == m else true) && agrees bound numbers assignment
agrees _ _ _ = false

-- Each bound number is below its range.
abbrev pub IsWithin : List Bool → List ℕ → List ℕ → Type 0
IsWithin [] [] [] = Unit {0}
IsWithin (is_bound ∷ bound) (n ∷ numbers) (range ∷ ranges) = (is_bound ≡ true → n < range) × IsWithin bound numbers ranges
IsWithin _ _ _ = ⊥
