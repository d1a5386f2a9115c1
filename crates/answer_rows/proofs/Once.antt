-- With DISTINCT no row stands twice, and the row of each match stands there.
use Rattle.std.proofs.Common.{◌≡◌, ◌≢◌, inl, inr, ℕ, zero, suc, not, Bool, true, false, cond, List, [], ◌∷◌, All, map, take, Option, Some, None, refl, sym, ap, arith, subst, ◌∙◌}
use Rattle.std.specs.Cmp.{IsTotalOrder}
use Rattle.std.specs.List.{AllByRecursion, AllPairs, filter}
use Rattle.std.specs.Ordering.{is_eq}
use Rattle.std.specs.declared.cmp.Ordering.{Ordering}
use Rattle.std.proofs.lemmas.List.Elements.{All-cons, All-nil}
use Rattle.std.proofs.lemmas.List.Kept.{AllPairs-cons}
use Rattle.sorted_lists.specs.Sorted.{before_by, in_order, placed}
use Rattle.sorted_lists.proofs.Alike as alike
use Rattle.sorted_lists.proofs.Among.{Among, Among-filter, Among-in_order, Among-map}
use Rattle.answer_rows.specs.Arranged.{Arrangement, Shown, first_of_each, has_row, kept, limited, match_order, rows_of, rows_order}
use Rattle.answer_rows.proofs.Cut.{map-limited}
use Rattle.answer_rows.proofs.Totals.{rows_order-total}

-- ---- no two are the same

module _ {X : Type 0} (order : X → X → Ordering) (total : IsTotalOrder order) where
  abbrev pub same : X → X → Bool
  same a b = is_eq (order a b)

  abbrev pub IsApart : X → List X → Type 0
  IsApart x xs = AllByRecursion (λ y. same x y ≡ false) xs

  abbrev pub AreApart : List X → Type 0
  AreApart [] = Unit {0}
  AreApart (x ∷ xs) = IsApart x xs × AreApart xs

  apart-filter : (p : X → Bool) (x : X) (xs : List X) → IsApart x xs → IsApart x (filter p xs)
  apart-filter p x [] apart = tt
  apart-filter p x (y ∷ ys) apart =
      elim (p y) as (λ b. IsApart x (cond b (y ∷ filter p ys) (filter p ys))) [ true ↦ (apart.0, apart-filter p x ys apart.1) | false ↦ apart-filter p x ys apart.1 ]

  AreApart-filter : (p : X → Bool) (xs : List X) → AreApart xs → AreApart (filter p xs)
  AreApart-filter p [] apart = tt
  AreApart-filter p (x ∷ xs) apart =
      elim (p x) as (λ b. AreApart (cond b (x ∷ filter p xs) (filter p xs)))
      [ true ↦ (apart-filter p x xs apart.0, AreApart-filter p xs apart.1) | false ↦ AreApart-filter p xs apart.1 ]

  others_by : (x y : X) (rest : List X) → IsApart x rest → (b : Bool) → same x y ≡ b → IsApart x (cond (not b) (y ∷ rest) rest)
  others_by x y rest apart true is = apart
  others_by x y rest apart false is = (is, apart)

  apart-others : (x : X) (xs : List X) → IsApart x (filter (λ y. not (same x y)) xs)
  apart-others x [] = tt
  apart-others x (y ∷ ys) = others_by x y (filter (λ z. not (same x z)) ys) (apart-others x ys) (same x y) refl

  pub AreApart-first_of_each : (xs : List X) → AreApart (first_of_each same xs)
  AreApart-first_of_each [] = tt
  AreApart-first_of_each (x ∷ xs) =
      (apart-others x (first_of_each same xs), AreApart-filter (λ y. not (same x y)) (first_of_each same xs) (AreApart-first_of_each xs))

  turned_by : (x y : X) → same x y ≡ false → (b : Bool) → same y x ≡ b → b ≡ false
  turned_by x y apart true is = let back = alike.same-sym order total y x is in absurd (cc (apart, back))
  turned_by x y apart false is = refl

  turned : (x y : X) → same x y ≡ false → same y x ≡ false
  turned x y apart = turned_by x y apart (same y x) refl

  apart-placed : (before : X → X → Bool) (y x : X) (ys : List X) → same y x ≡ false → IsApart y ys → IsApart y (placed before x ys)
  apart-placed before y x [] here apart = (here, tt)
  apart-placed before y x (z ∷ zs) here apart =
      elim (before z x) as (λ b. IsApart y (cond b (z ∷ placed before x zs) (x ∷ z ∷ zs)))
      [ true ↦ (apart.0, apart-placed before y x zs here apart.1) | false ↦ (here, apart) ]

  AreApart-placed : (before : X → X → Bool) (x : X) (ys : List X) → IsApart x ys → AreApart ys → AreApart (placed before x ys)
  AreApart-placed before x [] here apart = (tt, tt)
  AreApart-placed before x (y ∷ ys) here apart =
      elim (before y x) as (λ b. AreApart (cond b (y ∷ placed before x ys) (x ∷ y ∷ ys)))
      [ true ↦ (apart-placed before y x ys (turned x y here.0) apart.0, AreApart-placed before x ys here.1 apart.1) | false ↦ (here, apart) ]

  apart-in_order : (before : X → X → Bool) (x : X) (xs : List X) → IsApart x xs → IsApart x (in_order before xs)
  apart-in_order before x [] apart = tt
  apart-in_order before x (y ∷ ys) apart = apart-placed before x y (in_order before ys) apart.0 (apart-in_order before x ys apart.1)

  pub AreApart-in_order : (before : X → X → Bool) (xs : List X) → AreApart xs → AreApart (in_order before xs)
  AreApart-in_order before [] apart = tt
  AreApart-in_order before (x ∷ xs) apart =
      AreApart-placed before x (in_order before xs) (apart-in_order before x xs apart.0) (AreApart-in_order before xs apart.1)

  apart-take : (n : ℕ) (x : X) (xs : List X) → IsApart x xs → IsApart x (take n xs)
  apart-take zero x xs apart = tt
  apart-take (suc n) x [] apart = tt
  apart-take (suc n) x (y ∷ ys) apart = (apart.0, apart-take n x ys apart.1)

  AreApart-take : (n : ℕ) (xs : List X) → AreApart xs → AreApart (take n xs)
  AreApart-take zero xs apart = tt
  AreApart-take (suc n) [] apart = tt
  AreApart-take (suc n) (x ∷ xs) apart = (apart-take n x xs apart.0, AreApart-take n xs apart.1)

  AreApart-limited : (most : Option ℕ) (xs : List X) → AreApart xs → AreApart (limited most xs)
  AreApart-limited None xs apart = apart
  AreApart-limited (Some n) xs apart = AreApart-take n xs apart

  -- ---- one that is the same stands there

  abbrev HasSame : List X → List X → X → Type 0
  HasSame xs ys x = (y : X) × Among ys y × Among xs y × (same y x ≡ true)

  instead : (x y z : X) (xs ys : List X) → Among xs z → Among ys z → same z y ≡ true → (b : Bool) → same x z ≡ b
      → HasSame (x ∷ xs) (x ∷ filter (λ w. not (same x w)) ys) y
  instead x y z xs ys among stands is true is' = (x, inl refl, inl refl, ap is_eq (alike.congr order total x z y is') ∙ is)
  instead x y z xs ys among stands is false is' = (z, inr (Among-filter (λ w. not (same x w)) ys z stands (ap not is')), inr among, is)

  same-first_of_each : (xs : List X) (y : X) → Among xs y → HasSame xs (first_of_each same xs) y
  same-first_of_each [] y among = absurd among
  same-first_of_each (x ∷ xs) y (inl is) = (x, inl refl, inl refl, subst (λ z. same x z ≡ true) is (alike.same-itself order total x))
  same-first_of_each (x ∷ xs) y (inr among) =
      let rest = same-first_of_each xs y among in
      instead x y rest.0 xs (first_of_each same xs) rest.2 rest.1 rest.3 (same x rest.0) refl

-- ---- rows

module _ (texts : List (List ℕ)) where
  differ : (a b : Shown) → has_row texts a b ≡ false → a.row ≢ b.row
  differ a b apart is =
      let tie = alike.same-itself (rows_order texts) (rows_order-total texts) b in
      let tie' : has_row texts a b ≡ true = subst (λ row. is_eq (rows_order texts (record { keys = a.keys; row = row; numbers = a.numbers }) b) ≡ true) (sym is) tie in
      cc (apart, tie')

  rows-apart : (m : Shown) (matches : List Shown) → IsApart (rows_order texts) (rows_order-total texts) m matches → All (λ row. m.row ≢ row) (map (λ m. m.row) matches)
  rows-apart m [] apart = All-nil (λ row. m.row ≢ row)
  rows-apart m (n ∷ matches) apart =
      All-cons (λ row. m.row ≢ row) n.row (map (λ m. m.row) matches) (differ m n apart.0) (rows-apart m matches apart.1)

  rows-once : (matches : List Shown) → AreApart (rows_order texts) (rows_order-total texts) matches → AllPairs (λ a b. a ≢ b) (map (λ m. m.row) matches)
  rows-once [] apart = λ i j d less within. absurd (omega (arith, within))
  rows-once (m ∷ matches) apart =
      AllPairs-cons (λ a b. a ≢ b) m.row (map (λ m. m.row) matches) (rows-apart m matches apart.0) (rows-once matches apart.1)

  module _ (arrangement : Arrangement) (distinct : arrangement.distinct ≡ true) where
    abbrev arranged : List Shown → List Shown
    arranged matches = in_order (before_by (match_order texts arrangement)) (first_of_each (has_row texts) matches)

    rows-of_arranged : (matches : List Shown) → rows_of texts arrangement matches ≡ limited arrangement.limit (map (λ m. m.row) (arranged matches))
    rows-of_arranged matches =
        ap (λ d. limited arrangement.limit (map (λ m. m.row) (in_order (before_by (match_order texts arrangement)) (kept texts d matches)))) distinct

    pub rows_of-once : (matches : List Shown) → AllPairs (λ a b. a ≢ b) (rows_of texts arrangement matches)
    rows_of-once matches =
        let order = rows_order texts in
        let total = rows_order-total texts in
        let before = before_by (match_order texts arrangement) in
        let apart = AreApart-limited order total arrangement.limit (arranged matches)
        (AreApart-in_order order total before (first_of_each (has_row texts) matches) (AreApart-first_of_each order total matches)) in
        subst (AllPairs (λ a b. a ≢ b)) (map-limited (λ (m : Shown). m.row) arrangement.limit (arranged matches) ∙ sym (rows-of_arranged matches))
        (rows-once (limited arrangement.limit (arranged matches)) apart)

    -- a match with the same row has its row there
    abbrev pub HasItsRow : List Shown → Shown → Type 0
    HasItsRow matches m = (z : Shown) × Among matches z × (has_row texts z m ≡ true) × Among (rows_of texts arrangement matches) z.row

    pub rows_of-each : arrangement.limit ≡ None → (matches : List Shown) (m : Shown) → Among matches m → HasItsRow matches m
    rows_of-each none matches m among =
        let found = same-first_of_each (rows_order texts) (rows_order-total texts) matches m among in
        let whole = rows-of_arranged matches ∙ ap (λ most. limited most (map (λ (m : Shown). m.row) (arranged matches))) none in
        let there = Among-map (λ (m : Shown). m.row) (arranged matches) found.0
        (Among-in_order (before_by (match_order texts arrangement)) (first_of_each (has_row texts) matches) found.0 found.1) in
        (found.0, found.2, found.3, subst (λ rows. Among rows found.0.row) (sym whole) there)
