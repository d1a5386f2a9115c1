-- Lists whose order doesn't count.
use Rattle.std.specs.Prelude.{◌≡◌, ℕ, ◌+◌, List, [], ◌∷◌}

-- a number of each element, added up
abbrev pub total : {A : Type 0} → (A → ℕ) → List A → ℕ
total number [] = 0
total number (x ∷ xs) = number x + total number xs

-- The same bag: whatever is counted of each element adds up to the same.
abbrev pub SameBag : {A : Type 0} → List A → List A → Type 0
SameBag {A} xs ys = (number : A → ℕ) → total number xs ≡ total number ys
