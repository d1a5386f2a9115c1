-- The numbers of a seed. All sums and products are modulo 2 ^ 64.
use Rattle.std.specs.Prelude.{ℕ, ◌+◌, ◌*◌, ◌/◌, ◌%◌, ◌^◌, bit_xor, zero, suc}

-- a state whose bits from this place on are put upon those below
abbrev pub folded : ℕ → ℕ → ℕ
folded state bits = bit_xor state (state / 2 ^ bits)

abbrev pub next_state : ℕ → ℕ
next_state state = (state + 0x9E3779B97F4A7C15) % 2 ^ 64

-- what a state gives
unfoldable pub draw : ℕ → ℕ
draw state = folded (folded (folded state 30 * 0xBF58476D1CE4E5B9 % 2 ^ 64) 27 * 0x94D049BB133111EB % 2 ^ 64) 31

-- the state after so many draws
abbrev pub state_after : ℕ → ℕ → ℕ
state_after seed zero = seed
state_after seed (suc n) = next_state (state_after seed n)

-- the nth number of a seed, from 0
unfoldable pub nth_draw : ℕ → ℕ → ℕ
nth_draw seed n = draw (next_state (state_after seed n))
