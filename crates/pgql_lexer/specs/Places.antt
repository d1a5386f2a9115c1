-- Stretches of a text, each from its first byte to the place after its last.
use Rattle.std.specs.Prelude.{ℕ, ◌≤◌, ◌<◌, List, [], ◌∷◌}

-- They stand one after the other between these two places, and none of them is empty.
abbrev pub StandBetween : ℕ → ℕ → List (ℕ × ℕ) → Type 0
StandBetween from to [] = from ≤ to
StandBetween from to (stretch ∷ stretches) = (from ≤ stretch.0) × (stretch.0 < stretch.1) × StandBetween stretch.1 to stretches

-- It isn't empty and lies between these two places.
abbrev pub LiesBetween : ℕ → ℕ → ℕ × ℕ → Type 0
LiesBetween from to stretch = (from ≤ stretch.0) × (stretch.0 < stretch.1) × (stretch.1 ≤ to)
