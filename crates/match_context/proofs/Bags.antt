-- Two lists that weigh the same, however their elements are weighed, have the same elements.
use Rattle.std.proofs.Common.{◌≡◌, ℕ, ◌<◌, Bool, true, false, cond, List, [], ◌∷◌, Some, refl, sym, ap, ◌∙◌, arith, suc}
use Rattle.std.specs.Prelude.{slice_get, remove}
use Rattle.std.specs.Str.{bytes_eq}
use Rattle.std.specs.List.Sorted.{IsPermutation}
use Rattle.std.proofs.lemmas.List.Recursion.{is_sum_by}
use Rattle.std.proofs.lemmas.List.Sorted.{IsPermutation-refl, IsPermutation-sym, IsPermutation-cons, IsPermutation-trans, IsPermutation-remove, sum_by-IsPermutation}
use Rattle.std.proofs.lemmas.Option.{slice_get_within, get_or_from_slice_get}
use Rattle.std.proofs.lemmas.Slice.Eq.{bytes_eq-Decides}
use Rattle.match_context.specs.declared.context.Context.{Context}
use Rattle.match_context.specs.Bags.{total, SameBag}
use Rattle.match_context.specs.Laws.{BagsArePermutations, SumsInAnyOrder}
use Rattle.match_context.proofs.Totals.{total-append, total-remove}

abbrev one : Bool → ℕ
one b = cond b 1 0

-- what weighs something stands somewhere
stands : {A : Type 0} (same : A → A → Bool) (tells : (x y : A) → same x y ≡ true → x ≡ y) (x : A) (ys : List A)
    → 0 < total (λ y. one (same x y)) ys → (i : ℕ) × (slice_get ys i ≡ Some x)
stands same tells x [] h = absurd (omega arith)
stands same tells x (y ∷ ys) h = go (same x y) refl (stands same tells x ys)
  where
    go : (b : Bool) → same x y ≡ b → (0 < total (λ z. one (same x z)) ys → (i : ℕ) × (slice_get ys i ≡ Some x)) → (i : ℕ) × (slice_get (y ∷ ys) i ≡ Some x)
    go true e rec = (0, ap Some (sym (tells x y e)))
    go false e rec = let none : one (same x y) ≡ one false = ap one e in let r = rec (omega (arith, none, h)) in (suc r.0, r.1)

-- a bag is a permutation, where equality can be tested
pub permutation-from_bag : {A : Type 0} (same : A → A → Bool) (tells : (x y : A) → same x y ≡ true → x ≡ y) (self : (x : A) → same x x ≡ true)
    (xs ys : List A) → SameBag xs ys → IsPermutation xs ys
permutation-from_bag same tells self [] [] bag = IsPermutation-refl []
permutation-from_bag same tells self [] (y ∷ ys) bag = let e = bag (λ _. 1) in absurd (omega arith)
permutation-from_bag same tells self (x ∷ xs) ys bag =
    let e = bag (λ y. one (same x y)) in
    let me : one (same x x) ≡ one true = ap one (self x) in
    let at = stands same tells x ys (omega arith) in
    let within = slice_get_within ys at.0 x at.1 in
    let out = IsPermutation-remove ys at.0 x within (sym (get_or_from_slice_get ys at.0 x x at.1)) in
    let rest = permutation-from_bag same tells self xs (remove ys at.0) (λ h. let a = bag h in let b = total-remove h ys at.0 x at.1 in omega arith) in
    IsPermutation-trans (x ∷ xs) (x ∷ remove ys at.0) ys (IsPermutation-cons x xs (remove ys at.0) rest) (IsPermutation-sym ys (x ∷ remove ys at.0) out)

pub total-permutation : {A : Type 0} (f : A → ℕ) (xs ys : List A) → IsPermutation xs ys → total f xs ≡ total f ys
total-permutation f xs ys same =
    is_sum_by (total f) f refl (λ _ _. refl) xs ∙ sym (sum_by-IsPermutation f xs ys same) ∙ sym (is_sum_by (total f) f refl (λ _ _. refl) ys)

-- contexts are equal where their words are
abbrev same_words : Context → Context → Bool
same_words a b = bytes_eq a.words b.words

same_words-tells : (a b : Context) → same_words a b ≡ true → a ≡ b
same_words-tells a b e = ap (λ words. record { words = words }) ((bytes_eq-Decides a.words b.words).0 e)

same_words-self : (a : Context) → same_words a a ≡ true
same_words-self a = (bytes_eq-Decides a.words a.words).1 refl

pub bags_are_permutations : BagsArePermutations
bags_are_permutations xs ys = (permutation-from_bag same_words same_words-tells same_words-self xs ys, λ same number. total-permutation number xs ys same)

pub sums_in_any_order : SumsInAnyOrder
sums_in_any_order xs ys =
    ((λ number. let a = total-append number xs ys in let b = total-append number ys xs in omega arith), (λ number. total-append number xs ys))
