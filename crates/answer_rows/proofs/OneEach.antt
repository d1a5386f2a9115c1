-- One of each of those that are the same: the first in a list, or the first of each run once the list is in order.
use Rattle.std.proofs.Common.{◌≡◌, not, Bool, true, false, cond, List, [], ◌∷◌, take, refl, sym, ap, ◌∙◌}
use Rattle.std.specs.Cmp.{IsTotalOrder}
use Rattle.std.specs.List.{AllByRecursion, dedup, dedup_from, filter}
use Rattle.std.specs.Ordering.{is_eq, ordering_reverse}
use Rattle.std.specs.declared.cmp.Ordering.{Ordering}
use Rattle.std.specs.declared.cmp.Ordering.TheVariants.{Less, Equal, Greater}
use Rattle.std.proofs.lemmas.List.MinMax.{ranks_by}
use Rattle.sorted_lists.specs.Sorted.{before_by, in_order}
use Rattle.sorted_lists.proofs.Ascending.{Ascends, Ascends-in_order}
use Rattle.sorted_lists.proofs.Alike as alike
use Rattle.sorted_lists.proofs.Alike.{filter-narrow}
use Rattle.answer_rows.specs.Arranged.{first_of_each}

module _ {X : Type 0} (order : X → X → Ordering) (total : IsTotalOrder order) where
  abbrev pub same : X → X → Bool
  same a b = is_eq (order a b)

  congr : (a b c : X) → same a b ≡ true → order a c ≡ order b c
  congr = alike.congr order total

  turned : (a b : X) (o : Ordering) → order b a ≡ o → order a b ≡ ordering_reverse o
  turned = alike.turned order total

  same-sym : (a b : X) → same a b ≡ true → same b a ≡ true
  same-sym = alike.same-sym order total

  -- ---- the first of each

  none_left_by : (z x y : X) (xs : List X) → same z x ≡ true → filter (same z) (filter (λ w. not (same x w)) xs) ≡ []
      → (b : Bool) → same x y ≡ b → filter (same z) (filter (λ w. not (same x w)) (y ∷ xs)) ≡ []
  none_left_by z x y xs is rest true is' = rw is' rest
  none_left_by z x y xs is rest false is' = let apart : same z y ≡ false = ap is_eq (congr z x y is) ∙ is' in rw (is', apart) rest

  -- without those that are the same as x, where x is the same as z, nothing is the same as z
  none_left : (z x : X) → same z x ≡ true → (xs : List X) → filter (same z) (filter (λ y. not (same x y)) xs) ≡ []
  none_left z x is [] = refl
  none_left z x is (y ∷ xs) = none_left_by z x y xs is (none_left z x is xs) (same x y) refl

  apart_by : (z x y : X) → same z x ≡ false → same z y ≡ true → (b : Bool) → same x y ≡ b → not (same x y) ≡ true
  apart_by z x y other is true is' =
      let whole : same z x ≡ same y x = ap is_eq (congr z y x is) in
      let back = same-sym x y is' in
      absurd (cc (whole, back, other))
  apart_by z x y other is false is' = rw is' refl

  -- and where x isn't, all of them are left
  all_left : (z x : X) → same z x ≡ false → (xs : List X) → filter (same z) (filter (λ y. not (same x y)) xs) ≡ filter (same z) xs
  all_left z x other xs = filter-narrow (same z) (λ y. not (same x y)) (λ y is. apart_by z x y other is (same x y) refl) xs

  first_by : (z x : X) (xs : List X) → filter (same z) (first_of_each same xs) ≡ take 1 (filter (same z) xs)
      → (b : Bool) → same z x ≡ b → filter (same z) (first_of_each same (x ∷ xs)) ≡ take 1 (filter (same z) (x ∷ xs))
  first_by z x xs rest true is = rw (is, none_left z x is (first_of_each same xs)) refl
  first_by z x xs rest false is = rw (is, all_left z x is (first_of_each same xs)) rest

  pub filter-first_of_each : (z : X) (xs : List X) → filter (same z) (first_of_each same xs) ≡ take 1 (filter (same z) xs)
  filter-first_of_each z [] = refl
  filter-first_of_each z (x ∷ xs) = first_by z x xs (filter-first_of_each z xs) (same z x) refl

  -- ---- the first of each run

  behind_by : (k y x : X) → before_by order y x ≡ false → order k x ≡ Less → (o : Ordering) → order x y ≡ o → order k y ≡ Less
  behind_by k y x behind less Less is = total.trans k x y less is
  behind_by k y x behind less Equal is =
      let back : order y x ≡ Equal = turned y x Equal is in
      let same_to_k : order y k ≡ order x k = total.congr y x k back in
      turned k y Greater (same_to_k ∙ turned x k Less less)
  behind_by k y x behind less Greater is = let back : order y x ≡ Less = turned y x Greater is in absurd (cc (back, behind))

  -- what stands after something that k comes before is not the same as k
  none_same : (z k x : X) → same z k ≡ true → order k x ≡ Less → (ys : List X) → AllByRecursion (λ y. before_by order y x ≡ false) ys → filter (same z) ys ≡ []
  none_same z k x is less [] behind = refl
  none_same z k x is less (y ∷ ys) behind =
      let apart : same z y ≡ false = ap is_eq (congr z k y is ∙ behind_by k y x behind.0 less (order x y) refl) in
      rw apart (none_same z k x is less ys behind.1)

  less_by : (k x : X) → before_by order x k ≡ false → same x k ≡ false → (o : Ordering) → order x k ≡ o → order k x ≡ Less
  less_by k x behind other Less is = absurd (cc (is, behind))
  less_by k x behind other Equal is = absurd (cc (is, other))
  less_by k x behind other Greater is = turned k x Greater is

  run_same : (z k x : X) (xs : List X) → same x k ≡ true → (b : Bool) → same z k ≡ b → take 1 (filter (same z) (k ∷ xs)) ≡ take 1 (filter (same z) (k ∷ x ∷ xs))
  run_same z k x xs is true is' = rw is' refl
  run_same z k x xs is false is' = let apart : same z x ≡ false = apart_from z k x is is' (same z x) refl in rw (is', apart) refl where
    apart_from : (z k x : X) → same x k ≡ true → same z k ≡ false → (b : Bool) → same z x ≡ b → same z x ≡ false
    apart_from z k x is other true is'' = let whole : same z k ≡ same x k = ap is_eq (congr z x k is'') in absurd (cc (whole, is, other))
    apart_from z k x is other false is'' = is''

  run_ends : (z k x : X) (xs : List X) → order k x ≡ Less → AllByRecursion (λ y. before_by order y x ≡ false) xs
      → filter (same z) (dedup_from same x xs) ≡ take 1 (filter (same z) (x ∷ xs)) → (b : Bool) → same z k ≡ b
      → filter (same z) (k ∷ dedup_from same x xs) ≡ take 1 (filter (same z) (k ∷ x ∷ xs))
  run_ends z k x xs less behind rest true is =
      let apart : same z x ≡ false = ap is_eq (congr z k x is ∙ less) in
      let nothing : filter (same z) (x ∷ xs) ≡ [] = rw apart (none_same z k x is less xs behind) in
      let first : filter (same z) (dedup_from same x xs) ≡ [] = rest ∙ ap (take 1) nothing in
      rw (is, first) refl
  run_ends z k x xs less behind rest false is = rw is rest

  dedup_by_test : (z k x : X) (xs : List X) → Ascends (before_by order) (k ∷ x ∷ xs)
      → (Ascends (before_by order) (k ∷ xs) → filter (same z) (dedup_from same k xs) ≡ take 1 (filter (same z) (k ∷ xs)))
      → filter (same z) (dedup_from same x xs) ≡ take 1 (filter (same z) (x ∷ xs))
      → (b : Bool) → same x k ≡ b → filter (same z) (dedup_from same k (x ∷ xs)) ≡ take 1 (filter (same z) (k ∷ x ∷ xs))
  dedup_by_test z k x xs up from_k from_x true is =
      rw is (from_k (up.0.1, up.1.1) ∙ run_same z k x xs is (same z k) refl)
  dedup_by_test z k x xs up from_k from_x false is =
      rw is (run_ends z k x xs (less_by k x up.0.0 is (order x k) refl) up.1.0 from_x (same z k) refl)

  filter-dedup_from : (z k : X) (xs : List X) → Ascends (before_by order) (k ∷ xs) → filter (same z) (dedup_from same k xs) ≡ take 1 (filter (same z) (k ∷ xs))
  filter-dedup_from z k [] up = elim (same z k) as (λ b. cond b (k ∷ []) [] ≡ take 1 (cond b (k ∷ []) [])) [ true ↦ refl | false ↦ refl ]
  filter-dedup_from z k (x ∷ xs) up =
      dedup_by_test z k x xs up (filter-dedup_from z k xs) (filter-dedup_from z x xs up.1) (same x k) refl

  pub filter-dedup : (z : X) (xs : List X) → Ascends (before_by order) xs → filter (same z) (dedup same xs) ≡ take 1 (filter (same z) xs)
  filter-dedup z [] up = refl
  filter-dedup z (x ∷ xs) up = filter-dedup_from z x xs up

  -- the first of each, whether by places or by runs
  pub one_of_each : (z : X) (xs : List X) → filter (same z) (dedup same (in_order (before_by order) xs)) ≡ filter (same z) (first_of_each same xs)
  one_of_each z xs =
      filter-dedup z (in_order (before_by order) xs) (Ascends-in_order (before_by order) (ranks_by total (λ x. x)) xs)
      ∙ ap (take 1) (alike.filter-in_order order total z xs) ∙ sym (filter-first_of_each z xs)
