-- Sums over all views, and how often a number workers in a list.
use Rattle.std.proofs.Common.{◌≡◌, ◌≢◌, ℕ, Bool, true, false, zero, suc, List, [], ◌∷◌, ◌+◌, ◌<◌, ◌≤◌, ◌==◌, set, if◌then◌else◌, refl, sym, ap, arith, ◌∙◌, eq-eqb, ne_eqb}
use Rattle.std.proofs.lemmas.Bool.Decides.{nat_tests}
use Rattle.std.specs.Prelude.{sum_by}
use Rattle.std.proofs.lemmas.List.Sums.{sum_by-cons}
use mathlib.Core.Option.{some, some-injective, some-ne-none}
use lib.ListN.{get_elem?}
use Rattle.stage_credits.specs.Lists.{one_if, times, without}

-- the sum after a change of one item
pub sum_by-put : {X : Type 0} (f : X → ℕ) (xs : List X) (i : ℕ) (x y : X) → get_elem? xs i ≡ some x → sum_by f (set xs i y) + f x ≡ sum_by f xs + f y
sum_by-put f [] i x y e = absurd (some-ne-none x (sym e))
sum_by-put f (z ∷ zs) zero x y e =
    let a = sum_by-cons f z zs in let b = sum_by-cons f y zs in let c : f z ≡ f x = ap f (some-injective z x e) in omega arith
sum_by-put f (z ∷ zs) (suc i) x y e =
    let a = sum_by-cons f z zs in let b = sum_by-cons f z (set zs i y) in let c = sum_by-put f zs i x y e in omega arith

-- what one item adds is within the sum
pub sum_by-part : {X : Type 0} (f : X → ℕ) (xs : List X) (i : ℕ) (x : X) → get_elem? xs i ≡ some x → f x ≤ sum_by f xs
sum_by-part f [] i x e = absurd (some-ne-none x (sym e))
sum_by-part f (z ∷ zs) zero x e = let a = sum_by-cons f z zs in let c : f z ≡ f x = ap f (some-injective z x e) in omega arith
sum_by-part f (z ∷ zs) (suc i) x e = let a = sum_by-cons f z zs in let c = sum_by-part f zs i x e in omega arith

pub same_test : (x y : ℕ) → (x == y) ≡ true → x ≡ y
same_test x y e = grind (arith, nat_tests)

pub times-without_same : (x : ℕ) (xs : List ℕ) → 0 < times x xs → times x (without x xs) + 1 ≡ times x xs
times-without_same x [] some_there = absurd (omega arith)
times-without_same x (y ∷ ys) some_there = go (x == y) refl (times-without_same x ys)
  where
    go : (b : Bool) → (x == y) ≡ b → (0 < times x ys → times x (without x ys) + 1 ≡ times x ys) → times x (if b then ys else y ∷ without x ys) + 1 ≡ one_if b + times x ys
    go true e rest = omega arith
    go false e rest =
        let here : one_if (x == y) ≡ 0 = ap one_if e in
        let more : 0 < times x ys = omega arith in
        let r = rest more in
        omega arith

pub times-without_other : (k x : ℕ) (xs : List ℕ) → k ≢ x → times k (without x xs) ≡ times k xs
times-without_other k x [] other = refl
times-without_other k x (y ∷ ys) other = go (x == y) refl (times-without_other k x ys other)
  where
    go : (b : Bool) → (x == y) ≡ b → times k (without x ys) ≡ times k ys → times k (if b then ys else y ∷ without x ys) ≡ one_if (k == y) + times k ys
    go true e rest =
        let same : x ≡ y = same_test x y e in
        let apart : k ≢ y = λ h. other (h ∙ sym same) in
        let none : one_if (k == y) ≡ 0 = ap one_if (ne_eqb k y apart) in
        omega arith
    go false e rest = omega arith

pub times-cons_same : (x : ℕ) (xs : List ℕ) → times x (x ∷ xs) ≡ times x xs + 1
times-cons_same x xs = let here : one_if (x == x) ≡ 1 = ap one_if (eq-eqb x x refl) in omega arith

pub times-cons_other : (k x : ℕ) (xs : List ℕ) → k ≢ x → times k (x ∷ xs) ≡ times k xs
times-cons_other k x xs other = let none : one_if (k == x) ≡ 0 = ap one_if (ne_eqb k x other) in omega arith
