-- What it means that a vertex isn't joined with the first one.
use Rattle.std.specs.Prelude.{◌≡◌, ◌↔◌, ℕ, Bool, List, false, true}
use Rattle.pattern_scope.specs.Joined.{HasBothOrNeither, are_joined}

-- the set has the first variable, of each link both ends or neither, and not this variable
pub record SetsApart (links : List (ℕ × ℕ)) (number : ℕ) (set : ℕ → Bool) : Type 0 where
  pub has_first : set 0 ≡ true
  pub both_or_neither : HasBothOrNeither set links
  pub lacks : set number ≡ false

-- links do not join a variable with the first one exactly where a set sets it apart
abbrev pub NotJoinedIsApart : Type 0
NotJoinedIsApart = (links : List (ℕ × ℕ)) (number : ℕ) → (are_joined links 0 number ≡ false) ↔ ((set : ℕ → Bool) × SetsApart links number set)
