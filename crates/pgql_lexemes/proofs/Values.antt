-- The value of digits is no less than what came before them.
use Rattle.std.proofs.Common.{◌≡◌, ℕ, ◌+◌, ◌-◌, ◌*◌, ◌^◌, ◌≤◌, ◌<◌, length, get_or, List, [], ◌∷◌, arith}
use Rattle.pgql_lexer.specs.Fronts.{value_after}

pub value_grows : (n : ℕ) (z : List ℕ) → n ≤ value_after n z
value_grows n [] = omega arith
value_grows n (b ∷ z) = let le = value_grows (10 * n + (b - 48)) z in omega arith

pub next_value : (whole n : ℕ) (z : List ℕ) → 1 ≤ length z → whole ≡ value_after n z → whole < 2 ^ 63 → 10 * n + (get_or z 0 0 - 48) < 2 ^ 63
next_value whole n [] some e lt = absurd (omega arith)
next_value whole n (b ∷ z) some e lt = let le = value_grows (10 * n + (b - 48)) z in omega arith
