-- How often a number stands in a list, and what is left without it.
use Rattle.std.specs.Prelude.{ℕ, Bool, true, false, List, [], ◌∷◌, ◌+◌, ◌==◌, nat_lt, if◌then◌else◌}

abbrev pub one_if : Bool → ℕ
one_if true = 1
one_if false = 0

-- how often x stands in the list
abbrev pub times : ℕ → List ℕ → ℕ
times x [] = 0
times x (y ∷ ys) = one_if (x == y) + times x ys

-- the list without the first x
abbrev pub without : ℕ → List ℕ → List ℕ
without x [] = []
without x (y ∷ ys) = if x == y then ys else y ∷ without x ys

-- how many of the numbers are below n
abbrev pub count_below : ℕ → List ℕ → ℕ
count_below n [] = 0
count_below n (x ∷ xs) = one_if (nat_lt x n) + count_below n xs
