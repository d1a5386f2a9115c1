-- The values of expressions, by SQL's three-valued logic.
use Rattle.std.specs.Prelude.{ℕ, ℤ, pos, Bool, true, false, ◌&&◌, ◌||◌, not, if◌then◌else◌, List, slice_index_or, neg_ℤ, ◌+ℤ◌, ◌-ℤ◌, ◌*ℤ◌, Option, Some, None}
use Rattle.std.specs.Int.RustNames.{int_div, int_rem}
use Rattle.std.specs.Option.{option_map}
use Rattle.std.specs.Ordering.{int_eq, is_eq, is_ne, is_lt, is_le, is_gt, is_ge}
use Rattle.std.specs.declared.cmp.Ordering.{Ordering}
use Rattle.adfs_base.specs.declared.value.Value.{Value}
use Rattle.adfs_base.specs.declared.value.Value.TheVariants as value
use Rattle.pgql_tree.specs.declared.ast.Op.{Op}
use Rattle.pgql_tree.specs.declared.ast.Op.TheVariants as op
use Rattle.value_text.specs.Numbers.{is_i64}
use Rattle.value_text.specs.Order.{value_order}
use Rattle.typed_query.specs.declared.expr.Expr.{Expr}
use Rattle.typed_query.specs.declared.expr.Expr.TheOpen.{Expr-F}
use Rattle.typed_query.specs.declared.expr.Expr.TheFolds.{fold-Expr}

-- NOT null is null
abbrev pub negation : Value → Value
negation (value.Bool a) = value.Bool (not a)
negation a = value.Null

-- AND: false where a side is false, else null where a side is null, else true
abbrev pub conjunction : Value → Value → Value
conjunction (value.Bool a) (value.Bool b) = value.Bool (a && b)
conjunction (value.Bool false) value.Null = value.Bool false
conjunction value.Null (value.Bool false) = value.Bool false
conjunction a b = value.Null

-- OR: true where a side is true, else null where a side is null, else false
abbrev pub disjunction : Value → Value → Value
disjunction (value.Bool a) (value.Bool b) = value.Bool (a || b)
disjunction (value.Bool true) value.Null = value.Bool true
disjunction value.Null (value.Bool true) = value.Bool true
disjunction a b = value.Null

abbrev pub is_null : Value → Bool
is_null value.Null = true
is_null a = false

-- IS NULL and IS NOT NULL
abbrev pub null_test : Value → Bool → Value
null_test a negated = value.Bool (if negated then not (is_null a) else is_null a)

-- a whole number, a truth value, or null where there is none
abbrev pub whole_of : Option ℤ → Value
whole_of (Some n) = value.Int n
whole_of None = value.Null

abbrev pub truth_of : Option Bool → Value
truth_of (Some a) = value.Bool a
truth_of None = value.Null

-- a whole number, or null where i64 lacks it
abbrev pub whole : ℤ → Value
whole n = if is_i64 n then value.Int n else value.Null

-- a sign minus
abbrev pub minus : Value → Value
minus (value.Int a) = whole (neg_ℤ a)
minus a = value.Null

-- rounded toward zero, and null for a zero divisor
abbrev pub quotient : ℤ → ℤ → Value
quotient a b = if int_eq b (pos 0) then value.Null else whole (int_div a b)

-- with the dividend's sign, and null for a zero divisor
abbrev pub remainder : ℤ → ℤ → Value
remainder a b = if int_eq b (pos 0) then value.Null else whole (int_rem a b)

-- an operator of arithmetic on two whole numbers
abbrev pub computed : Op → ℤ → ℤ → Value
computed op.Add a b = whole (a +ℤ b)
computed op.Subtract a b = whole (a -ℤ b)
computed op.Multiply a b = whole (a *ℤ b)
computed op.Divide a b = quotient a b
computed op.Remainder a b = remainder a b
computed o a b = value.Null

-- the same on two values: null where one isn't a whole number
abbrev pub arithmetic : Op → Value → Value → Value
arithmetic o (value.Int a) (value.Int b) = computed o a b
arithmetic o a b = value.Null

-- two values of one kind
abbrev pub are_alike : Value → Value → Bool
are_alike (value.Int a) (value.Int b) = true
are_alike (value.Text a) (value.Text b) = true
are_alike (value.Bool a) (value.Bool b) = true
are_alike (value.Date a) (value.Date b) = true
are_alike a b = false

-- how two values of one kind stand to each other
abbrev pub order_of : List (List ℕ) → Value → Value → Option Ordering
order_of texts a b = if are_alike a b then Some (value_order texts a b) else None

-- a test of that; null for other values
abbrev pub compared : List (List ℕ) → (Ordering → Bool) → Value → Value → Value
compared texts test a b = truth_of (option_map test (order_of texts a b))

-- whether a comparison holds of sides that stand so
abbrev pub holds : Op → Ordering → Bool
holds op.Equal order = is_eq order
holds op.Unequal order = is_ne order
holds op.Less order = is_lt order
holds op.LessEqual order = is_le order
holds op.Greater order = is_gt order
holds op.GreaterEqual order = is_ge order
holds o order = false

-- an operator with the values of its sides
abbrev pub applied : List (List ℕ) → Op → Value → Value → Value
applied texts op.Or a b = disjunction a b
applied texts op.And a b = conjunction a b
applied texts op.Equal a b = compared texts (holds op.Equal) a b
applied texts op.Unequal a b = compared texts (holds op.Unequal) a b
applied texts op.Less a b = compared texts (holds op.Less) a b
applied texts op.LessEqual a b = compared texts (holds op.LessEqual) a b
applied texts op.Greater a b = compared texts (holds op.Greater) a b
applied texts op.GreaterEqual a b = compared texts (holds op.GreaterEqual) a b
applied texts o a b = arithmetic o a b

-- an expression whose parts have these values
abbrev pub val_of : List (List ℕ) → List Value → Expr-F Value → Value
val_of texts captured (Expr-F.Constant a) = a
val_of texts captured (Expr-F.Captured i) = slice_index_or captured i value.Null
val_of texts captured (Expr-F.Not a) = negation a
val_of texts captured (Expr-F.Neg a) = minus a
val_of texts captured (Expr-F.IsNull a negated) = null_test a negated
val_of texts captured (Expr-F.Binary o a b) = applied texts o a b

-- the value of an expression, from its leaves up; a capture that isn't there is null
unfoldable pub val : List (List ℕ) → List Value → Expr → Value
val texts captured = fold-Expr Value (val_of texts captured)

-- An assignment passes a condition only where its value is true.
abbrev pub passes : Value → Bool
passes (value.Bool a) = a
passes a = false
