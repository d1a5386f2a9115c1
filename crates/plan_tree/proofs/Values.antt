-- An expression's value rests on the captures that it uses alone.
use Rattle.std.proofs.Common.{◌≡◌, ℕ, List, [], ◌∷◌, ◌++◌, refl, sym, ap, ap₂, ◌∙◌, subst, slice_index_or}
use Rattle.std.specs.List.{AllByRecursion}
use Rattle.adfs_base.specs.declared.value.Value.{Value}
use Rattle.adfs_base.specs.declared.value.Value.TheVariants as value
use Rattle.typed_expr.specs.declared.expr.Expr.{Expr}
use Rattle.typed_expr.specs.declared.expr.Expr.TheVariants as expr
use Rattle.typed_expr.specs.Parts.{captures}
use Rattle.typed_expr.specs.Val.{applied, minus, negation, null_test, val}
use Rattle.typed_expr.proofs.ExprByParts.{by_parts}
use Rattle.typed_expr.proofs.Parts.{captures-Binary, captures-Captured, captures-IsNull, captures-Neg, captures-Not}
use Rattle.typed_expr.proofs.Parts.{val-Binary, val-Captured, val-Constant, val-IsNull, val-Neg, val-Not}

-- the two lists have the same value at the place
abbrev pub IsSame : List Value → List Value → ℕ → Type 0
IsSame us vs place = slice_index_or us place value.Null ≡ slice_index_or vs place value.Null

pub All-front : (P : ℕ → Type 0) (xs ys : List ℕ) → AllByRecursion P (xs ++ ys) → AllByRecursion P xs
All-front P [] ys all = tt
All-front P (x ∷ xs) ys all = (all.0, All-front P xs ys all.1)

pub All-rest : (P : ℕ → Type 0) (xs ys : List ℕ) → AllByRecursion P (xs ++ ys) → AllByRecursion P ys
All-rest P [] ys all = all
All-rest P (x ∷ xs) ys all = All-rest P xs ys all.1

module _ (texts : List (List ℕ)) (us vs : List Value) where
  abbrev IsValued : Expr → Type 0
  IsValued e = AllByRecursion (IsSame us vs) (captures e) → val texts us e ≡ val texts vs e

  inside : (e x : Expr) → captures e ≡ captures x → AllByRecursion (IsSame us vs) (captures e) → AllByRecursion (IsSame us vs) (captures x)
  inside e x is all = subst (AllByRecursion (IsSame us vs)) is all

  pub val-same : (e : Expr) → IsValued e
  val-same = by_parts IsValued (record {
    constant = λ a all. val-Constant texts us (expr.Constant a) a refl ∙ sym (val-Constant texts vs (expr.Constant a) a refl);
    captured = λ i all.
        val-Captured texts us (expr.Captured i) i refl
        ∙ (subst (AllByRecursion (IsSame us vs)) (captures-Captured (expr.Captured i) i refl) all).0
        ∙ sym (val-Captured texts vs (expr.Captured i) i refl);
    not = λ x rest all.
        val-Not texts us (expr.Not x) x refl ∙ ap negation (rest (inside (expr.Not x) x (captures-Not (expr.Not x) x refl) all))
        ∙ sym (val-Not texts vs (expr.Not x) x refl);
    neg = λ x rest all.
        val-Neg texts us (expr.Neg x) x refl ∙ ap minus (rest (inside (expr.Neg x) x (captures-Neg (expr.Neg x) x refl) all))
        ∙ sym (val-Neg texts vs (expr.Neg x) x refl);
    is_null = λ x negated rest all.
        val-IsNull texts us (expr.IsNull x negated) x negated refl
        ∙ ap (λ a. null_test a negated) (rest (inside (expr.IsNull x negated) x (captures-IsNull (expr.IsNull x negated) x negated refl) all))
        ∙ sym (val-IsNull texts vs (expr.IsNull x negated) x negated refl);
    binary = λ o l r left right all.
        let both = subst (AllByRecursion (IsSame us vs)) (captures-Binary (expr.Binary o l r) o l r refl) all in
        val-Binary texts us (expr.Binary o l r) o l r refl
        ∙ ap₂ (applied texts o) (left (All-front (IsSame us vs) (captures l) (captures r) both)) (right (All-rest (IsSame us vs) (captures l) (captures r) both))
        ∙ sym (val-Binary texts vs (expr.Binary o l r) o l r refl);
  })
