-- Lists in order whose items are mapped.
use Rattle.std.proofs.Common.{◌≡◌, Bool, true, false, List, [], ◌∷◌, map, refl, ap, ◌∙◌}
use Rattle.sorted_lists.specs.Sorted.{placed, in_order}

module _ {X Y : Type 0} (f : X → Y) (before : X → X → Bool) (before' : Y → Y → Bool) (same : (a b : X) → before' (f a) (f b) ≡ before a b) where
  map-placed_by : (x y : X) (ys : List X) → map f (placed before x ys) ≡ placed before' (f x) (map f ys)
      → (b : Bool) → before y x ≡ b → map f (placed before x (y ∷ ys)) ≡ placed before' (f x) (map f (y ∷ ys))
  map-placed_by x y ys rest true is = rw (same y x, is) (ap (λ zs. f y ∷ zs) rest)
  map-placed_by x y ys rest false is = rw (same y x, is) refl

  map-placed : (x : X) (ys : List X) → map f (placed before x ys) ≡ placed before' (f x) (map f ys)
  map-placed x [] = refl
  map-placed x (y ∷ ys) = map-placed_by x y ys (map-placed x ys) (before y x) refl

  -- items may be mapped before or after they are put in order
  pub map-in_order : (xs : List X) → map f (in_order before xs) ≡ in_order before' (map f xs)
  map-in_order [] = refl
  map-in_order (x ∷ xs) = map-placed x (in_order before xs) ∙ ap (placed before' (f x)) (map-in_order xs)
