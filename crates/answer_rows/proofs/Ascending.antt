-- The matches whose rows an answer has ascend strictly.
use Rattle.std.proofs.Common.{◌≡◌, ℕ, zero, suc, Bool, true, false, List, [], ◌∷◌, map, take, Option, Some, None, refl, sym, ap, subst}
use Rattle.std.specs.Cmp.{IsTotalOrder}
use Rattle.std.specs.List.{AllByRecursion}
use Rattle.std.specs.List.Sorted.{IsStrictlySortedBy}
use Rattle.std.specs.Ordering.{is_eq, is_lt}
use Rattle.std.specs.declared.cmp.Ordering.{Ordering}
use Rattle.std.specs.declared.cmp.Ordering.TheVariants.{Less, Equal, Greater}
use Rattle.std.proofs.lemmas.List.Sorted.{ranks_by}
use Rattle.sorted_lists.specs.Sorted.{before_by, in_order}
use Rattle.sorted_lists.proofs.Alike as alike
use Rattle.sorted_lists.proofs.Ascending.{All-in_order, Ascends, Ascends-in_order}
use Rattle.answer_rows.specs.Arranged.{Arrangement, Shown, first_of_each, has_row, kept, limited, match_order, rows_of, rows_order, ties_order}
use Rattle.answer_rows.specs.Orders.{keys_order, numbers_order}
use Rattle.answer_rows.proofs.Cut.{map-limited}
use Rattle.answer_rows.proofs.Every.{All-kept, All-limited}
use Rattle.answer_rows.proofs.Kept.{second_by, ties-rows}
use Rattle.answer_rows.proofs.Once.{AreApart, AreApart-first_of_each, AreApart-in_order, IsApart}
use Rattle.answer_rows.proofs.Totals.{match_order-total, rows_order-total}

-- ---- what is in order, and has no ties, ascends strictly

module _ {X : Type 0} (order : X → X → Ordering) (total : IsTotalOrder order) where
  less_by : (x y : X) (o : Ordering) → order x y ≡ o → before_by order y x ≡ false → is_eq (order x y) ≡ false → o ≡ Less
  less_by x y Less is behind apart = refl
  less_by x y Equal is behind apart = let tie : is_eq (order x y) ≡ true = ap is_eq is in absurd (cc (tie, apart))
  less_by x y Greater is behind apart =
      let before : before_by order y x ≡ true = ap is_lt (alike.turned order total y x Greater is) in absurd (cc (before, behind))

  less : (x y : X) → before_by order y x ≡ false → is_eq (order x y) ≡ false → order x y ≡ Less
  less x y = less_by x y (order x y) refl

  all_less : (x : X) (ys : List X) → AllByRecursion (λ y. before_by order y x ≡ false) ys → IsApart order total x ys → AllByRecursion (λ y. order x y ≡ Less) ys
  all_less x [] behind apart = tt
  all_less x (y ∷ ys) behind apart = (less x y behind.0 apart.0, all_less x ys behind.1 apart.1)

  strictly : (xs : List X) → Ascends (before_by order) xs → AreApart order total xs → IsStrictlySortedBy order xs
  unfolding IsStrictlySortedBy
  strictly [] ascends apart = tt
  strictly (x ∷ xs) ascends apart = (all_less x xs ascends.0 apart.0, strictly xs ascends.1 apart.1)

  strictly-in_order : (xs : List X) → AreApart order total xs → IsStrictlySortedBy order (in_order (before_by order) xs)
  strictly-in_order xs apart =
      strictly (in_order (before_by order) xs) (Ascends-in_order (before_by order) (ranks_by total (λ x. x)) xs)
      (AreApart-in_order order total (before_by order) xs apart)

  all-take : (P : X → Type 0) (n : ℕ) (xs : List X) → AllByRecursion P xs → AllByRecursion P (take n xs)
  all-take P zero xs all = tt
  all-take P (suc n) [] all = tt
  all-take P (suc n) (x ∷ xs) all = (all.0, all-take P n xs all.1)

  strictly-take : (n : ℕ) (xs : List X) → IsStrictlySortedBy order xs → IsStrictlySortedBy order (take n xs)
  unfolding IsStrictlySortedBy
  strictly-take zero xs sorted = tt
  strictly-take (suc n) [] sorted = tt
  strictly-take (suc n) (x ∷ xs) sorted = (all-take (λ y. order x y ≡ Less) n xs sorted.0, strictly-take n xs sorted.1)

  strictly-limited : (most : Option ℕ) (xs : List X) → IsStrictlySortedBy order xs → IsStrictlySortedBy order (limited most xs)
  strictly-limited None xs sorted = sorted
  strictly-limited (Some n) xs sorted = strictly-take n xs sorted

-- ---- no two matches tie: their rows differ, or their numbers do

module _ (texts : List (List ℕ)) (arrangement : Arrangement) where
  rows-apart : arrangement.distinct ≡ true → (a b : Shown) → is_eq (rows_order texts a b) ≡ false → is_eq (match_order texts arrangement a b) ≡ false
  rows-apart distinct a b apart = by (is_eq (match_order texts arrangement a b)) refl where
    by : (o : Bool) → is_eq (match_order texts arrangement a b) ≡ o → is_eq (match_order texts arrangement a b) ≡ false
    by true is = let tie = ties-rows texts arrangement distinct a b is in absurd (cc (tie, apart))
    by false is = is

  numbers-apart : arrangement.distinct ≡ false → (a b : Shown) → numbers_order a.numbers b.numbers ≡ Less → is_eq (match_order texts arrangement a b) ≡ false
  numbers-apart plain a b below = by (is_eq (match_order texts arrangement a b)) refl where
    by : (o : Bool) → is_eq (match_order texts arrangement a b) ≡ o → is_eq (match_order texts arrangement a b) ≡ false
    by true is =
        let second : is_eq (ties_order texts arrangement.distinct a b) ≡ true = second_by (keys_order texts arrangement.downs a.keys b.keys) (ties_order texts arrangement.distinct a b) is in
        let tie : is_eq (numbers_order a.numbers b.numbers) ≡ true = subst (λ d. is_eq (ties_order texts d a b) ≡ true) plain second in
        let differ : is_eq (numbers_order a.numbers b.numbers) ≡ false = ap is_eq below in
        absurd (cc (tie, differ))
    by false is = is

  abbrev IsApartFrom : Shown → List Shown → Type 0
  IsApartFrom = IsApart (match_order texts arrangement) (match_order-total texts arrangement)

  abbrev DoNotTie : List Shown → Type 0
  DoNotTie = AreApart (match_order texts arrangement) (match_order-total texts arrangement)

  one-by_rows : arrangement.distinct ≡ true → (x : Shown) (ys : List Shown) → IsApart (rows_order texts) (rows_order-total texts) x ys → IsApartFrom x ys
  one-by_rows distinct x [] apart = tt
  one-by_rows distinct x (y ∷ ys) apart = (rows-apart distinct x y apart.0, one-by_rows distinct x ys apart.1)

  all-by_rows : arrangement.distinct ≡ true → (xs : List Shown) → AreApart (rows_order texts) (rows_order-total texts) xs → DoNotTie xs
  all-by_rows distinct [] apart = tt
  all-by_rows distinct (x ∷ xs) apart = (one-by_rows distinct x xs apart.0, all-by_rows distinct xs apart.1)

  abbrev pub by_numbers : Shown → Shown → Ordering
  by_numbers a b = numbers_order a.numbers b.numbers

  one-by_numbers : arrangement.distinct ≡ false → (x : Shown) (ys : List Shown) → AllByRecursion (λ y. by_numbers x y ≡ Less) ys → IsApartFrom x ys
  one-by_numbers plain x [] below = tt
  one-by_numbers plain x (y ∷ ys) below = (numbers-apart plain x y below.0, one-by_numbers plain x ys below.1)

  all-by_numbers : arrangement.distinct ≡ false → (xs : List Shown) → IsStrictlySortedBy by_numbers xs → DoNotTie xs
  unfolding IsStrictlySortedBy
  all-by_numbers plain [] sorted = tt
  all-by_numbers plain (x ∷ xs) sorted = (one-by_numbers plain x xs sorted.0, all-by_numbers plain xs sorted.1)

  kept-apart : (matches : List Shown) → IsStrictlySortedBy by_numbers matches → (distinct : Bool) → arrangement.distinct ≡ distinct → DoNotTie (kept texts distinct matches)
  kept-apart matches sorted true is =
      all-by_rows is (first_of_each (has_row texts) matches) (AreApart-first_of_each (rows_order texts) (rows_order-total texts) matches)
  kept-apart matches sorted false is = all-by_numbers is matches sorted

  -- ---- the matches of an answer

  -- those whose rows it has, in their order
  abbrev pub answered : List Shown → List Shown
  answered matches = limited arrangement.limit (in_order (before_by (match_order texts arrangement)) (kept texts arrangement.distinct matches))

  pub rows_of-answered : (matches : List Shown) → rows_of texts arrangement matches ≡ map (λ m. m.row) (answered matches)
  rows_of-answered matches =
      sym (map-limited (λ (m : Shown). m.row) arrangement.limit (in_order (before_by (match_order texts arrangement)) (kept texts arrangement.distinct matches)))

  pub All-answered : (P : Shown → Type 0) (matches : List Shown) → AllByRecursion P matches → AllByRecursion P (answered matches)
  All-answered P matches all =
      let left = kept texts arrangement.distinct matches in
      All-limited P arrangement.limit (in_order (before_by (match_order texts arrangement)) left)
      (All-in_order P (before_by (match_order texts arrangement)) left (All-kept P texts arrangement.distinct matches all))

  -- where the matches ascend by their numbers, those of the answer ascend in its order
  pub answered-ascend : (matches : List Shown) → IsStrictlySortedBy by_numbers matches → IsStrictlySortedBy (match_order texts arrangement) (answered matches)
  answered-ascend matches sorted =
      let left = kept texts arrangement.distinct matches in
      let total = match_order-total texts arrangement in
      strictly-limited (match_order texts arrangement) total arrangement.limit (in_order (before_by (match_order texts arrangement)) left)
      (strictly-in_order (match_order texts arrangement) total left (kept-apart matches sorted arrangement.distinct refl))
