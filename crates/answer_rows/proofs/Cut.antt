-- The limit and the projection of rows don't touch each other.
use Rattle.std.proofs.Common.{◌≡◌, ℕ, zero, suc, List, [], ◌∷◌, map, take, Option, Some, None, refl, ap}
use Rattle.answer_rows.specs.Arranged.{limited}

map-take : {X Y : Type 0} (f : X → Y) (n : ℕ) (xs : List X) → map f (take n xs) ≡ take n (map f xs)
map-take f zero xs = refl
map-take f (suc n) [] = refl
map-take f (suc n) (x ∷ xs) = ap (λ ys. f x ∷ ys) (map-take f n xs)

pub map-limited : {X Y : Type 0} (f : X → Y) (most : Option ℕ) (xs : List X) → map f (limited most xs) ≡ limited most (map f xs)
map-limited f None xs = refl
map-limited f (Some n) xs = map-take f n xs
