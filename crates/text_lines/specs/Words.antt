-- The first space of a text.
use Rattle.std.specs.Prelude.{ℕ, ◌==◌, nat_lt, Bool, List, length}
use Rattle.std.specs.List.{position_or_len}

abbrev pub is_space : ℕ → Bool
is_space b = b == 32

abbrev pub has_space : List ℕ → Bool
has_space text = nat_lt (position_or_len is_space text) (length text)
