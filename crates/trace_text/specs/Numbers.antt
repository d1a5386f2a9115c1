-- The numbers of a line: decimal, without leading zeros, below 2^32, one space between two.
use Rattle.std.specs.Prelude.{ℕ, ◌^◌, ◌==◌, ◌&&◌, ◌||◌, not, nat_lt, if◌then◌else◌, Bool, false, List, [], ◌∷◌, length, Option, Some, None}
use Rattle.std.specs.Char.{is_ascii_digit}
use Rattle.std.specs.List.{after_first, before_first, list_all}
use Rattle.std.specs.Option.{option_map, option_and_then}
use Rattle.std.specs.Str.Parse.{digits_value}
use Rattle.text_lines.specs.Words.{has_space, is_space}

-- decimal digits without a leading zero, at least one
abbrev pub is_plain : List ℕ → Bool
is_plain [] = false
is_plain (digit ∷ rest) = list_all is_ascii_digit (digit ∷ rest) && (not (digit == 48) || (length rest == 0))

-- the number that a text is
abbrev pub number_of : List ℕ → Option ℕ
number_of text = if is_plain text && nat_lt (digits_value 10 text) (2 ^ 32) then Some (digits_value 10 text) else None

-- the two numbers that a text is, and the three
abbrev pub pair_of : List ℕ → Option (ℕ × ℕ)
pair_of text =
    if has_space text
    then option_and_then (λ first. option_map (λ second. (first, second)) (number_of (after_first is_space text))) (number_of (before_first is_space text))
    else None

abbrev pub triple_of : List ℕ → Option (ℕ × ℕ × ℕ)
triple_of text =
    if has_space text
    then option_and_then (λ rest. option_map (λ first. (first, rest.0, rest.1)) (number_of (before_first is_space text))) (pair_of (after_first is_space text))
    else None
