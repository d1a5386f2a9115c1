-- Counts that never fall, and stand still at the greatest u64.
use Rattle.std.specs.Prelude.{ℕ, ◌+◌, ◌-◌, ◌^◌, ◌≤◌, Bool, min, List, ◌==◌}
use Rattle.std.specs.List.{list_any}

-- the next count
abbrev pub counted : ℕ → ℕ
counted n = min (n + 1) (2 ^ 64 - 1)

-- The count rose, or stood at its end already.
abbrev pub Rose : ℕ → ℕ → Type 0
Rose before now = counted before ≤ now

-- whether the call of this number is among those that fail
abbrev pub is_listed : ℕ → List ℕ → Bool
is_listed number failing = list_any (λ n. n == number) failing
