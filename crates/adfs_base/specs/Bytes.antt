-- What a sink holds after a put. None: it doesn't tell.
use Rattle.std.specs.Prelude.{◌≡◌, ℕ, List, [], ◌∷◌, ◌++◌, take, Option}
use Rattle.std.specs.Option.{option_map}

-- what a sink holds that held `old` and took the bytes
abbrev pub took : Option (List ℕ) → List ℕ → Option (List ℕ)
took old bytes = option_map (λ held. held ++ bytes) old

-- The sink took a front of the bytes.
abbrev pub TookFront : Option (List ℕ) → List ℕ → Option (List ℕ) → Type 0
TookFront old bytes new = (n : ℕ) × (new ≡ took old (take n bytes))

-- the pieces that a sink has taken whole, after this one
abbrev pub with_piece : Option (List (List ℕ)) → List ℕ → Option (List (List ℕ))
with_piece old piece = option_map (λ pieces. pieces ++ piece ∷ []) old
