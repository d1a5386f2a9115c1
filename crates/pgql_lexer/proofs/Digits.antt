-- The value of digits is no less than that of their front.
use Rattle.std.proofs.Common.{◌≡◌, ℕ, ◌+◌, ◌-◌, ◌*◌, ◌/◌, ◌≤◌, ◌<◌, length, get_or, List, [], ◌∷◌, true, arith}
use Rattle.std.specs.Prelude.{nat_lt}
use Rattle.std.proofs.lemmas.Bool.Decides.{nat_tests}
use Rattle.pgql_lexer.specs.Fronts.{value_after, most_number}

value_after-grows : (value : ℕ) (digits : List ℕ) → value ≤ value_after value digits
value_after-grows value [] = omega arith
value_after-grows value (digit ∷ digits) = let more = value_after-grows (10 * value + (digit - 48)) digits in omega arith

value_after-stays_wide : (value : ℕ) (digits : List ℕ) → most_number < value → nat_lt most_number (value_after value digits) ≡ true
value_after-stays_wide value digits wide = let more : value ≤ value_after value digits = value_after-grows value digits in grind (arith, nat_tests)

-- one digit more is too many
pub value_after-wide : (value digit : ℕ) (rest : List ℕ) → 1 ≤ length rest → digit ≡ get_or rest 0 0 - 48 → digit ≤ most_number → (most_number - digit) / 10 < value
    → nat_lt most_number (value_after value rest) ≡ true
value_after-wide value digit [] some same small above = absurd (omega arith)
value_after-wide value digit (byte ∷ rest) some same small above =
    let wide : most_number < 10 * value + (byte - 48) = next_is_wide value digit byte same small above in
    value_after-stays_wide (10 * value + (byte - 48)) rest wide
  where
    next_is_wide : (value digit byte : ℕ) → digit ≡ byte - 48 → digit ≤ most_number → (most_number - digit) / 10 < value → most_number < 10 * value + (byte - 48)
    next_is_wide value digit byte same small above = omega arith
