-- The rows of matches are the same in whatever order these come.
use Rattle.std.proofs.Common.{◌≡◌, ℕ, not, Bool, true, false, List, [], ◌∷◌, map, take, All, refl, sym, ap, subst, ◌∙◌}
use Rattle.std.specs.List.{filter}
use Rattle.std.specs.List.Sorted.{IsPermutation}
use Rattle.std.specs.Ordering.{is_eq}
use Rattle.std.proofs.lemmas.List.Elements.{All-cons, All-head, All-nil, All-tail}
use Rattle.std.proofs.lemmas.List.Sorted.{IsPermutation-map}
use Rattle.sorted_lists.specs.Sorted.{before_by, in_order}
use Rattle.sorted_lists.proofs.Alike.{alike-permuted, in_order-alike, in_order-permuted}
use Rattle.sorted_lists.proofs.Mapped.{map-in_order}
use Rattle.answer_rows.specs.Arranged.{Arrangement, Shown, first_of_each, has_row, kept, limited, match_order, rows_of, rows_order}
use Rattle.answer_rows.proofs.Kept.{ties-rows}
use Rattle.answer_rows.proofs.OneEach.{filter-first_of_each}
use Rattle.answer_rows.proofs.Totals.{match_order-total, rows_order-total}

-- ---- items that are mapped

module _ {X : Type 0} (f : X → X) (same : X → X → Bool) (alike : (a b : X) → same (f a) (f b) ≡ same a b) where
  map-others_by : (x y : X) (ys : List X) → map f (filter (λ z. not (same x z)) ys) ≡ filter (λ z. not (same (f x) z)) (map f ys)
      → (b : Bool) → same x y ≡ b → map f (filter (λ z. not (same x z)) (y ∷ ys)) ≡ filter (λ z. not (same (f x) z)) (map f (y ∷ ys))
  map-others_by x y ys rest true is = rw (alike x y, is) rest
  map-others_by x y ys rest false is = rw (alike x y, is) (ap (λ zs. f y ∷ zs) rest)

  map-others : (x : X) (ys : List X) → map f (filter (λ z. not (same x z)) ys) ≡ filter (λ z. not (same (f x) z)) (map f ys)
  map-others x [] = refl
  map-others x (y ∷ ys) = map-others_by x y ys (map-others x ys) (same x y) refl

  map-first_of_each : (xs : List X) → map f (first_of_each same xs) ≡ first_of_each same (map f xs)
  map-first_of_each [] = refl
  map-first_of_each (x ∷ xs) = ap (λ zs. f x ∷ zs) (map-others x (first_of_each same xs) ∙ ap (filter (λ z. not (same (f x) z))) (map-first_of_each xs))

-- ---- matches without their numbers

abbrev pub bare : Shown → Shown
bare m = record { keys = m.keys; row = m.row; numbers = [] }

rows-bare : (matches : List Shown) → map (λ m. m.row) (map bare matches) ≡ map (λ m. m.row) matches
rows-bare [] = refl
rows-bare (m ∷ matches) = ap (λ rows. m.row ∷ rows) (rows-bare matches)

module _ (texts : List (List ℕ)) (arrangement : Arrangement) where
  abbrev in_its_order : List Shown → List Shown
  in_its_order = in_order (before_by (match_order texts arrangement))

  bare-order : arrangement.distinct ≡ true → (a b : Shown) → before_by (match_order texts arrangement) (bare a) (bare b) ≡ before_by (match_order texts arrangement) a b
  bare-order is a b = rw is refl

  -- with DISTINCT the numbers say nothing
  rows-of_bare : arrangement.distinct ≡ true → (matches : List Shown)
      → map (λ m. m.row) (in_its_order (first_of_each (has_row texts) matches)) ≡ map (λ m. m.row) (in_its_order (first_of_each (has_row texts) (map bare matches)))
  rows-of_bare is matches =
      let before = before_by (match_order texts arrangement) in
      sym (rows-bare (in_its_order (first_of_each (has_row texts) matches)))
      ∙ ap (map (λ m. m.row)) (map-in_order bare before before (bare-order is) (first_of_each (has_row texts) matches)
      ∙ ap in_its_order (map-first_of_each bare (has_row texts) (λ a b. refl) matches))

  module _ (IsTold : Shown → Type 0) where
    -- a match of these, without its numbers
    abbrev IsBare : Shown → Type 0
    IsBare m = (whole : Shown) × IsTold whole × (m ≡ bare whole)

    All-bare : (matches : List Shown) → All IsTold matches → All IsBare (map bare matches)
    All-bare [] all = All-nil IsBare
    All-bare (m ∷ matches) all =
        All-cons IsBare (bare m) (map bare matches) (m, All-head IsTold m matches all, refl) (All-bare matches (All-tail IsTold m matches all))

    module _ (by_row : (a b : Shown) → IsTold a → IsTold b → is_eq (rows_order texts a b) ≡ true → bare a ≡ bare b) where
      one : (a b : Shown) → IsBare a → IsBare b → is_eq (rows_order texts a b) ≡ true → a ≡ b
      one a b told told' tie =
          let tie' = subst (λ x. is_eq (rows_order texts x b) ≡ true) told.2 tie in
          let tie'' = subst (λ y. is_eq (rows_order texts (bare told.0) y) ≡ true) told'.2 tie' in
          told.2 ∙ by_row told.0 told'.0 told.1 told'.1 tie'' ∙ sym told'.2

      with_distinct : arrangement.distinct ≡ true → (xs ys : List Shown) → IsPermutation xs ys → All IsTold xs
          → map (λ m. m.row) (in_its_order (first_of_each (has_row texts) xs)) ≡ map (λ m. m.row) (in_its_order (first_of_each (has_row texts) ys))
      with_distinct is xs ys permuted told =
          let us = map bare xs in
          let vs = map bare ys in
          let total = rows_order-total texts in
          let each = alike-permuted (rows_order texts) total IsBare one us vs (IsPermutation-map bare xs ys permuted) (All-bare xs told) in
          rows-of_bare is xs
          ∙ ap (map (λ m. m.row)) (in_order-alike (rows_order texts) (match_order texts arrangement) total (match_order-total texts arrangement) (ties-rows texts arrangement is)
          (first_of_each (has_row texts) us) (first_of_each (has_row texts) vs)
          (λ z. filter-first_of_each (rows_order texts) total z us ∙ ap (take 1) (each z) ∙ sym (filter-first_of_each (rows_order texts) total z vs)))
          ∙ sym (rows-of_bare is ys)

  rows_of-kept : (distinct : Bool) → arrangement.distinct ≡ distinct → (matches : List Shown)
      → rows_of texts arrangement matches ≡ limited arrangement.limit (map (λ m. m.row) (in_its_order (kept texts distinct matches)))
  rows_of-kept distinct is matches = ap (λ d. limited arrangement.limit (map (λ m. m.row) (in_its_order (kept texts d matches)))) is

  -- What ties, in the order of the rows, must be one: with DISTINCT apart from the numbers.
  pub rows_of-permuted : (IsTold : Shown → Type 0)
      → (arrangement.distinct ≡ true → (a b : Shown) → IsTold a → IsTold b → is_eq (rows_order texts a b) ≡ true → bare a ≡ bare b)
      → (arrangement.distinct ≡ false → (a b : Shown) → IsTold a → IsTold b → is_eq (match_order texts arrangement a b) ≡ true → a ≡ b)
      → (xs ys : List Shown) → IsPermutation xs ys → All IsTold xs → rows_of texts arrangement xs ≡ rows_of texts arrangement ys
  rows_of-permuted IsTold by_row by_match xs ys permuted told = by arrangement.distinct refl where
    by : (distinct : Bool) → arrangement.distinct ≡ distinct → rows_of texts arrangement xs ≡ rows_of texts arrangement ys
    by true is =
        rows_of-kept true is xs ∙ ap (limited arrangement.limit) (with_distinct IsTold (by_row is) is xs ys permuted told) ∙ sym (rows_of-kept true is ys)
    by false is =
        rows_of-kept false is xs
        ∙ ap (λ matches. limited arrangement.limit (map (λ m. m.row) matches)) (in_order-permuted (match_order texts arrangement) (match_order-total texts arrangement) IsTold (by_match is) xs ys permuted told)
        ∙ sym (rows_of-kept false is ys)
