-- The value of an expression means something where its constants and the captured values do.
use Rattle.std.proofs.Common.{◌≡◌, ℕ, ℤ, Bool, true, false, cond, List, [], ◌∷◌, All, pos, zero, suc, Option, Some, None, refl, subst, sym, slice_index_or}
use Rattle.std.specs.Prelude.{neg_ℤ, ◌+ℤ◌, ◌-ℤ◌, ◌*ℤ◌}
use Rattle.std.specs.Int.RustNames.{int_div, int_rem}
use Rattle.std.specs.Option.{option_map}
use Rattle.std.specs.Ordering.{int_eq}
use Rattle.std.specs.declared.cmp.Ordering.{Ordering}
use Rattle.adfs_base.specs.declared.value.Value.{Value}
use Rattle.std.proofs.lemmas.List.Elements.{All-head, All-tail}
use Rattle.adfs_base.specs.declared.value.Value.TheVariants as value
use Rattle.pgql_tree.specs.declared.ast.Op.{Op}
use Rattle.pgql_tree.specs.declared.ast.Op.TheVariants as op
use Rattle.typed_query.specs.declared.expr.Expr.{Expr}
use Rattle.typed_query.specs.declared.expr.Expr.TheVariants as expr
use Rattle.typed_query.specs.Parts.{HasValidConstants}
use Rattle.typed_query.specs.Val.{applied, arithmetic, compared, computed, conjunction, disjunction, minus, negation, null_test, order_of, truth_of, val, whole}
use Rattle.typed_query.proofs.ExprByParts.{by_parts}
use Rattle.typed_query.proofs.Parts.{constant_is_valid, val-Binary, val-Captured, val-Constant, val-IsNull, val-Neg, val-Not}
use Rattle.value_text.specs.Numbers.{is_i64}
use Rattle.value_text.specs.Valid.{IsValid}

module _ (texts : List (List ℕ)) where
  negation-valid : (a : Value) → IsValid texts (negation a)
  negation-valid value.Null = tt
  negation-valid (value.Int n) = tt
  negation-valid (value.Text n) = tt
  negation-valid (value.Bool b) = tt
  negation-valid (value.Date d) = tt

  whole-valid : (n : ℤ) → IsValid texts (whole n)
  whole-valid n = elim (is_i64 n) as (λ b. IsValid texts (cond b (value.Int n) value.Null)) [ true ↦ tt | false ↦ tt ]

  minus-valid : (a : Value) → IsValid texts (minus a)
  minus-valid value.Null = tt
  minus-valid (value.Int n) = whole-valid (neg_ℤ n)
  minus-valid (value.Text n) = tt
  minus-valid (value.Bool b) = tt
  minus-valid (value.Date d) = tt

  conjunction-valid : (a b : Value) → IsValid texts (conjunction a b)
  conjunction-valid value.Null value.Null = tt
  conjunction-valid value.Null (value.Int n) = tt
  conjunction-valid value.Null (value.Text n) = tt
  conjunction-valid value.Null (value.Bool true) = tt
  conjunction-valid value.Null (value.Bool false) = tt
  conjunction-valid value.Null (value.Date d) = tt
  conjunction-valid (value.Int n) b = tt
  conjunction-valid (value.Text n) b = tt
  conjunction-valid (value.Bool true) value.Null = tt
  conjunction-valid (value.Bool false) value.Null = tt
  conjunction-valid (value.Bool a) (value.Int n) = tt
  conjunction-valid (value.Bool a) (value.Text n) = tt
  conjunction-valid (value.Bool a) (value.Bool b) = tt
  conjunction-valid (value.Bool a) (value.Date d) = tt
  conjunction-valid (value.Date d) b = tt

  disjunction-valid : (a b : Value) → IsValid texts (disjunction a b)
  disjunction-valid value.Null value.Null = tt
  disjunction-valid value.Null (value.Int n) = tt
  disjunction-valid value.Null (value.Text n) = tt
  disjunction-valid value.Null (value.Bool true) = tt
  disjunction-valid value.Null (value.Bool false) = tt
  disjunction-valid value.Null (value.Date d) = tt
  disjunction-valid (value.Int n) b = tt
  disjunction-valid (value.Text n) b = tt
  disjunction-valid (value.Bool true) value.Null = tt
  disjunction-valid (value.Bool false) value.Null = tt
  disjunction-valid (value.Bool a) (value.Int n) = tt
  disjunction-valid (value.Bool a) (value.Text n) = tt
  disjunction-valid (value.Bool a) (value.Bool b) = tt
  disjunction-valid (value.Bool a) (value.Date d) = tt
  disjunction-valid (value.Date d) b = tt

  truth-valid : (found : Option Bool) → IsValid texts (truth_of found)
  truth-valid None = tt
  truth-valid (Some truth) = tt

  computed-valid : (o : Op) (a b : ℤ) → IsValid texts (computed o a b)
  computed-valid op.Or a b = tt
  computed-valid op.And a b = tt
  computed-valid op.Equal a b = tt
  computed-valid op.Unequal a b = tt
  computed-valid op.Less a b = tt
  computed-valid op.LessEqual a b = tt
  computed-valid op.Greater a b = tt
  computed-valid op.GreaterEqual a b = tt
  computed-valid op.Add a b = whole-valid (a +ℤ b)
  computed-valid op.Subtract a b = whole-valid (a -ℤ b)
  computed-valid op.Multiply a b = whole-valid (a *ℤ b)
  computed-valid op.Divide a b = elim (int_eq b (pos 0)) as (λ zero. IsValid texts (cond zero value.Null (whole (int_div a b)))) [ true ↦ tt | false ↦ whole-valid (int_div a b) ]
  computed-valid op.Remainder a b = elim (int_eq b (pos 0)) as (λ zero. IsValid texts (cond zero value.Null (whole (int_rem a b)))) [ true ↦ tt | false ↦ whole-valid (int_rem a b) ]

  arithmetic-valid : (o : Op) (a b : Value) → IsValid texts (arithmetic o a b)
  arithmetic-valid o value.Null b = tt
  arithmetic-valid o (value.Int n) value.Null = tt
  arithmetic-valid o (value.Int n) (value.Int m) = computed-valid o n m
  arithmetic-valid o (value.Int n) (value.Text m) = tt
  arithmetic-valid o (value.Int n) (value.Bool m) = tt
  arithmetic-valid o (value.Int n) (value.Date m) = tt
  arithmetic-valid o (value.Text n) b = tt
  arithmetic-valid o (value.Bool n) b = tt
  arithmetic-valid o (value.Date n) b = tt

  compared-valid : (test : Ordering → Bool) (a b : Value) → IsValid texts (compared texts test a b)
  compared-valid test a b = truth-valid (option_map test (order_of texts a b))

  applied-valid : (o : Op) (a b : Value) → IsValid texts (applied texts o a b)
  applied-valid op.Or a b = disjunction-valid a b
  applied-valid op.And a b = conjunction-valid a b
  applied-valid op.Equal a b = compared-valid _ a b
  applied-valid op.Unequal a b = compared-valid _ a b
  applied-valid op.Less a b = compared-valid _ a b
  applied-valid op.LessEqual a b = compared-valid _ a b
  applied-valid op.Greater a b = compared-valid _ a b
  applied-valid op.GreaterEqual a b = compared-valid _ a b
  applied-valid op.Add a b = arithmetic-valid op.Add a b
  applied-valid op.Subtract a b = arithmetic-valid op.Subtract a b
  applied-valid op.Multiply a b = arithmetic-valid op.Multiply a b
  applied-valid op.Divide a b = arithmetic-valid op.Divide a b
  applied-valid op.Remainder a b = arithmetic-valid op.Remainder a b

  module _ (captured : List Value) (shown : All (IsValid texts) captured) where
    abbrev pub IsValue : Expr → Type 0
    IsValue e = HasValidConstants texts e → IsValid texts (val texts captured e)

    by : (e : Expr) (v : Value) → val texts captured e ≡ v → IsValid texts v → IsValid texts (val texts captured e)
    by e v is valid = subst (IsValid texts) (sym is) valid

    capture-valid : (values : List Value) → All (IsValid texts) values → (i : ℕ) → IsValid texts (slice_index_or values i value.Null)
    capture-valid [] all zero = tt
    capture-valid [] all (suc i) = tt
    capture-valid (x ∷ xs) all zero = All-head (IsValid texts) x xs all
    capture-valid (x ∷ xs) all (suc i) = capture-valid xs (All-tail (IsValid texts) x xs all) i

    pub value-valid : (e : Expr) → IsValue e
    value-valid = by_parts IsValue (record {
      constant = λ a valid. by (expr.Constant a) a (val-Constant texts captured (expr.Constant a) a refl) (constant_is_valid valid a refl);
      captured = λ i valid. by (expr.Captured i) (slice_index_or captured i value.Null) (val-Captured texts captured (expr.Captured i) i refl) (capture-valid captured shown i);
      not = λ x rest valid. by (expr.Not x) (negation (val texts captured x)) (val-Not texts captured (expr.Not x) x refl) (negation-valid (val texts captured x));
      neg = λ x rest valid. by (expr.Neg x) (minus (val texts captured x)) (val-Neg texts captured (expr.Neg x) x refl) (minus-valid (val texts captured x));
      is_null = λ x negated rest valid. by (expr.IsNull x negated) (null_test (val texts captured x) negated) (val-IsNull texts captured (expr.IsNull x negated) x negated refl) tt;
      binary = λ o l r left right valid. by (expr.Binary o l r) (applied texts o (val texts captured l) (val texts captured r)) (val-Binary texts captured (expr.Binary o l r) o l r refl) (applied-valid o (val texts captured l) (val texts captured r));
    })
