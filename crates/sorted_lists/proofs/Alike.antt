-- Lists that have alike what is the same by an order, and the list in order of each.
use Rattle.std.proofs.Common.{◌≡◌, ℕ, Bool, true, false, cond, List, [], ◌∷◌, length, refl, sym, ap, arith, ◌∙◌, ◌⊎◌, inl, inr, subst, zero, suc}
use Rattle.std.specs.Cmp.{IsTotalOrder}
use Rattle.std.specs.List.{All, filter, sum_by}
use Rattle.std.specs.List.Sorted.{IsPermutation, ties}
use Rattle.std.specs.Ordering.{is_eq, is_lt, ordering_reverse}
use Rattle.std.specs.declared.cmp.Ordering.{Ordering}
use Rattle.std.specs.declared.cmp.Ordering.TheVariants.{Less, Equal, Greater}
use Rattle.std.proofs.lemmas.List.Elements.{All-head, All-tail}
use Rattle.std.proofs.lemmas.List.MinMax.{ranks_by}
use Rattle.std.proofs.lemmas.List.Sorted.{All-permutation, sum_by-IsPermutation}
use Rattle.std.proofs.lemmas.List.Sums.{length-filter}
use Rattle.sorted_lists.specs.Sorted.{before_by, in_order}
use Rattle.sorted_lists.proofs.Ascending.{Ascends-in_order}
use Rattle.sorted_lists.proofs.Unique.{in_order-stable, unique}

-- ---- filters

narrow_by : {X : Type 0} (p q : X → Bool) (x : X) (xs : List X) → filter p (filter q xs) ≡ filter p xs → (p x ≡ true → q x ≡ true)
    → (a b : Bool) → p x ≡ a → q x ≡ b → filter p (filter q (x ∷ xs)) ≡ filter p (x ∷ xs)
narrow_by p q x xs rest leads a true is is' = rw (is', is, rest) refl
narrow_by p q x xs rest leads true false is is' = let passes = leads is in absurd (cc (passes, is'))
narrow_by p q x xs rest leads false false is is' = rw (is', is) rest

-- what passes a test passes a wider one
pub filter-narrow : {X : Type 0} (p q : X → Bool) → ((x : X) → p x ≡ true → q x ≡ true) → (xs : List X) → filter p (filter q xs) ≡ filter p xs
filter-narrow p q leads [] = refl
filter-narrow p q leads (x ∷ xs) = narrow_by p q x xs (filter-narrow p q leads xs) (leads x) (p x) (q x) refl refl

-- ---- orders

module _ {X : Type 0} (order : X → X → Ordering) (total : IsTotalOrder order) where
  abbrev pub same : X → X → Bool
  same a b = is_eq (order a b)

  equal_by : (o : Ordering) → is_eq o ≡ true → o ≡ Equal
  equal_by Less is = absurd cc
  equal_by Equal is = refl
  equal_by Greater is = absurd cc

  -- those that are the same stand alike to any third
  pub congr : (a b c : X) → same a b ≡ true → order a c ≡ order b c
  congr a b c is = total.congr a b c (equal_by (order a b) is)

  pub turned : (a b : X) (o : Ordering) → order b a ≡ o → order a b ≡ ordering_reverse o
  turned a b o is = total.antisymm a b ∙ ap ordering_reverse is

  itself_by : (a : X) (o : Ordering) → order a a ≡ o → same a a ≡ true
  itself_by a Less is = let back = turned a a Less is in absurd (cc (back, is))
  itself_by a Equal is = rw is refl
  itself_by a Greater is = let back = turned a a Greater is in absurd (cc (back, is))

  pub same-itself : (a : X) → same a a ≡ true
  same-itself a = itself_by a (order a a) refl

  pub same-sym : (a b : X) → same a b ≡ true → same b a ≡ true
  same-sym a b is = sym (ap is_eq (congr a b a is)) ∙ same-itself a

  -- ---- ties

  ties_by : (z x : X) (o : Ordering) → order z x ≡ o → ties (before_by order) z x ≡ same z x
  ties_by z x Less is = rw is refl
  ties_by z x Equal is = let back : before_by order x z ≡ false = ap is_lt (turned x z Equal is) in rw (is, back) refl
  ties_by z x Greater is = let back : before_by order x z ≡ true = ap is_lt (turned x z Greater is) in rw (is, back) refl

  pub ties-same : (z x : X) → ties (before_by order) z x ≡ same z x
  ties-same z x = ties_by z x (order z x) refl

  filter-alike : (p q : X → Bool) → ((x : X) → p x ≡ q x) → (xs : List X) → filter p xs ≡ filter q xs
  filter-alike p q alike [] = refl
  filter-alike p q alike (x ∷ xs) = rw (alike x, filter-alike p q alike xs) refl

  -- of the list in order, those that are the same as one stand as they stood
  pub filter-in_order : (z : X) (xs : List X) → filter (same z) (in_order (before_by order) xs) ≡ filter (same z) xs
  filter-in_order z xs =
      sym (filter-alike (ties (before_by order) z) (same z) (ties-same z) (in_order (before_by order) xs))
      ∙ in_order-stable (before_by order) (ranks_by total (λ x. x)) xs z
      ∙ filter-alike (ties (before_by order) z) (same z) (ties-same z) xs

-- ---- one list in order

-- Two lists that have alike what is the same by an order have one list in order, by each order that tells apart what that one does.
pub in_order-alike : {X : Type 0} (order finer : X → X → Ordering) (total : IsTotalOrder order) (total' : IsTotalOrder finer)
    → ((z x : X) → is_eq (finer z x) ≡ true → is_eq (order z x) ≡ true) → (xs ys : List X)
    → ((z : X) → filter (λ x. is_eq (order z x)) xs ≡ filter (λ x. is_eq (order z x)) ys)
    → in_order (before_by finer) xs ≡ in_order (before_by finer) ys
in_order-alike {X} order finer total total' leads xs ys alike =
    let weak = ranks_by total' (λ x. x) in
    unique (before_by finer) weak (in_order (before_by finer) xs) (in_order (before_by finer) ys)
    (Ascends-in_order (before_by finer) weak xs) (Ascends-in_order (before_by finer) weak ys)
    (λ z. tied z) where
      narrow : (z : X) (zs : List X) → filter (ties (before_by finer) z) (in_order (before_by finer) zs) ≡ filter (λ x. is_eq (finer z x)) (filter (λ x. is_eq (order z x)) zs)
      narrow z zs =
          filter-alike finer total' (ties (before_by finer) z) (λ x. is_eq (finer z x)) (ties-same finer total' z) (in_order (before_by finer) zs)
          ∙ filter-in_order finer total' z zs
          ∙ sym (filter-narrow (λ x. is_eq (finer z x)) (λ x. is_eq (order z x)) (leads z) zs)

      tied : (z : X) → filter (ties (before_by finer) z) (in_order (before_by finer) xs) ≡ filter (ties (before_by finer) z) (in_order (before_by finer) ys)
      tied z = narrow z xs ∙ ap (filter (λ x. is_eq (finer z x))) (alike z) ∙ sym (narrow z ys)

-- ---- lists of the same items

-- each item is one of its kind: those that are the same are one
module _ {X : Type 0} (order : X → X → Ordering) (total : IsTotalOrder order) (IsTold : X → Type 0)
    (one : (a b : X) → IsTold a → IsTold b → is_eq (order a b) ≡ true → a ≡ b) where
  found_by : (z x : X) (xs : List X) → IsTold x → ((filter (same order total z) xs ≡ []) ⊎ ((c : X) × IsTold c × (same order total z c ≡ true)))
      → (b : Bool) → same order total z x ≡ b → (filter (same order total z) (x ∷ xs) ≡ []) ⊎ ((c : X) × IsTold c × (same order total z c ≡ true))
  found_by z x xs told rest true is = inr (x, told, is)
  found_by z x xs told (inl none) false is = inl (rw is none)
  found_by z x xs told (inr found) false is = inr found

  found : (z : X) (xs : List X) → All IsTold xs → (filter (same order total z) xs ≡ []) ⊎ ((c : X) × IsTold c × (same order total z c ≡ true))
  found z [] told = inl refl
  found z (x ∷ xs) told = found_by z x xs (All-head IsTold x xs told) (found z xs (All-tail IsTold x xs told)) (same order total z x) refl

  equal : (z c x : X) → IsTold c → same order total z c ≡ true → IsTold x → same order total z x ≡ true → x ≡ c
  equal z c x told is told' is' = one x c told' told (ap is_eq (sym (congr order total z x c is')) ∙ is)

  abbrev pub copies : X → ℕ → List X
  copies c zero = []
  copies c (suc n) = c ∷ copies c n

  alone_by : (z c x : X) (xs : List X) → IsTold c → same order total z c ≡ true → IsTold x
      → filter (same order total z) xs ≡ copies c (length (filter (same order total z) xs))
      → (b : Bool) → same order total z x ≡ b → filter (same order total z) (x ∷ xs) ≡ copies c (length (filter (same order total z) (x ∷ xs)))
  alone_by z c x xs told is told' rest true is' = rw is' (let here = equal z c x told is told' is' in subst (λ w. w ∷ filter (same order total z) xs ≡ copies c (suc (length (filter (same order total z) xs)))) (sym here) (ap (λ ys. c ∷ ys) rest))
  alone_by z c x xs told is told' rest false is' = rw is' rest

  -- those that are the same as one are copies of it
  alone : (z c : X) (xs : List X) → IsTold c → same order total z c ≡ true → All IsTold xs → filter (same order total z) xs ≡ copies c (length (filter (same order total z) xs))
  alone z c [] told is all = refl
  alone z c (x ∷ xs) told is all =
      alone_by z c x xs told is (All-head IsTold x xs all) (alone z c xs told is (All-tail IsTold x xs all)) (same order total z x) refl

  count-filter : (p : X → Bool) (xs : List X) → length (filter p xs) ≡ sum_by (λ x. cond (p x) 1 0) xs
  count-filter p xs = length-filter p xs

  none-length : (xs : List X) → length xs ≡ 0 → xs ≡ []
  none-length [] is = refl
  none-length (x ∷ xs) is = absurd (omega (arith, is))

  alike_by : (z : X) (xs ys : List X) → All IsTold xs → All IsTold ys → length (filter (same order total z) ys) ≡ length (filter (same order total z) xs)
      → (filter (same order total z) xs ≡ []) ⊎ ((c : X) × IsTold c × (same order total z c ≡ true))
      → filter (same order total z) xs ≡ filter (same order total z) ys
  alike_by z xs ys told told' len (inl none) = none ∙ sym (none-length (filter (same order total z) ys) (len ∙ ap length none))
  alike_by z xs ys told told' len (inr found) =
      alone z found.0 xs found.1 found.2 told ∙ ap (copies found.0) (sym len) ∙ sym (alone z found.0 ys found.1 found.2 told')

  pub alike-permuted : (xs ys : List X) → IsPermutation xs ys → All IsTold xs → (z : X) → filter (λ x. is_eq (order z x)) xs ≡ filter (λ x. is_eq (order z x)) ys
  alike-permuted xs ys permuted told z =
      alike_by z xs ys told (All-permutation IsTold xs ys permuted told)
      (count-filter (same order total z) ys ∙ sum_by-IsPermutation (λ x. cond (same order total z x) 1 0) xs ys permuted ∙ sym (count-filter (same order total z) xs))
      (found z xs told)

  -- whatever their order, one list is in order
  pub in_order-permuted : (xs ys : List X) → IsPermutation xs ys → All IsTold xs → in_order (before_by order) xs ≡ in_order (before_by order) ys
  in_order-permuted xs ys permuted told = in_order-alike order order total total (λ z x is. is) xs ys (alike-permuted xs ys permuted told)
