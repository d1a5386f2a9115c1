-- How often a number stands among the numbers below a bound.
use Rattle.std.proofs.Common.{◌≡◌, ℕ, zero, suc, ◌+◌, ◌<◌, ◌≤◌, ◌⊎◌, Bool, true, false, cond, eqb, ltb}
use Rattle.std.proofs.Common.{sum_by, count_by, refl, sym, ap, ap₂, ◌∙◌, arith, inl, inr, add-zero, zero-add, true≢false}
use Rattle.std.specs.List.{range_with_len}
use Rattle.std.proofs.lemmas.Bool.{eqb-true, eq-eqb, ne_eqb, lt-ltb, le-ltb, cases_lt}
use Rattle.std.proofs.lemmas.List.Sums.{sum_by-cons}
use Rattle.plan_tree.proofs.Bags.{bit}

pick-none : (f : ℕ → ℕ) (n k r : ℕ) → n < k → sum_by (λ i. cond (eqb i n) (f i) 0) (range_with_len k r) ≡ 0
pick-none f n k zero below = refl
pick-none f n k (suc r) below =
    sum_by-cons (λ i. cond (eqb i n) (f i) 0) k (range_with_len (k + 1) r)
    ∙ ap₂ ◌+◌ (ap (λ b. cond b (f k) 0) (ne_eqb k n (λ e. omega arith))) (pick-none f n (k + 1) r (omega arith))

-- of the numbers from k on, the one that is n gives its term
pick-some : (f : ℕ → ℕ) (n k r : ℕ) → k ≤ n → n < k + r → sum_by (λ i. cond (eqb i n) (f i) 0) (range_with_len k r) ≡ f n
pick-some f n k zero from below = absurd (omega arith)
pick-some f n k (suc r) from below =
    sum_by-cons (λ i. cond (eqb i n) (f i) 0) k (range_with_len (k + 1) r)
    ∙ at_head (λ later. pick-some f n (k + 1) r later (omega arith)) (eqb k n) refl
  where
    at_head : (k + 1 ≤ n → sum_by (λ i. cond (eqb i n) (f i) 0) (range_with_len (k + 1) r) ≡ f n) → (b : Bool) → eqb k n ≡ b → cond (eqb k n) (f k) 0 + sum_by (λ i. cond (eqb i n) (f i) 0) (range_with_len (k + 1) r) ≡ f n
    at_head later true is =
        ap₂ ◌+◌ (ap (λ b. cond b (f k) 0) is) (pick-none f n (k + 1) r (omega (arith, eqb-true k n is)))
        ∙ add-zero (f k) ∙ ap f (eqb-true k n is)
    at_head later false is =
        ap₂ ◌+◌ (ap (λ b. cond b (f k) 0) is) (later (let ne : k ≡ n → ⊥ = λ e. true≢false (sym (eq-eqb k n e) ∙ is) in omega arith))
        ∙ zero-add (f n)

pub sum_by-pick : (f : ℕ → ℕ) (n r : ℕ) → n < r → sum_by (λ i. cond (eqb i n) (f i) 0) (range_with_len 0 r) ≡ f n
sum_by-pick f n r below = pick-some f n 0 r (omega arith) (omega arith)

pick-past : (f : ℕ → ℕ) (n k r : ℕ) → k + r ≤ n → sum_by (λ i. cond (eqb i n) (f i) 0) (range_with_len k r) ≡ 0
pick-past f n k zero past = refl
pick-past f n k (suc r) past =
    sum_by-cons (λ i. cond (eqb i n) (f i) 0) k (range_with_len (k + 1) r)
    ∙ ap₂ ◌+◌ (ap (λ b. cond b (f k) 0) (ne_eqb k n (λ e. omega arith))) (pick-past f n (k + 1) r (omega arith))

pub count_by-range : (n r : ℕ) → count_by (λ i. eqb i n) (range_with_len 0 r) ≡ bit (ltb n r)
count_by-range n r = at_side (cases_lt n r) where
  at_side : (n < r) ⊎ (r ≤ n) → count_by (λ i. eqb i n) (range_with_len 0 r) ≡ bit (ltb n r)
  at_side (inl below) = sum_by-pick (λ _. 1) n r below ∙ ap bit (sym (lt-ltb n r below))
  at_side (inr past) = pick-past (λ _. 1) n 0 r (omega arith) ∙ ap bit (sym (le-ltb n r past))
