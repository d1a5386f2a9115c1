-- What the words of a context say.
use Rattle.std.specs.Prelude.{ℕ, ◌+◌, ◌==◌, ◌%◌, ◌^◌, List, Option, Some, None, slice_index, if◌then◌else◌}
use Rattle.std.specs.Int.{bit_at}

-- the number of the element for which a variable stands; 0 while it stands for none
abbrev pub number_in : List ℕ → ℕ → ℕ
number_in words variable = slice_index words (1 + variable) % 2 ^ 32

-- the word of a captured value after those of so many variables; none where it is null
abbrev pub captured_in : List ℕ → ℕ → ℕ → Option ℕ
captured_in words variables capture =
    if bit_at (slice_index words 0) capture == 1 then None else Some (slice_index words (1 + variables + capture))
