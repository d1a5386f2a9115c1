-- The constants and the captures that stand in an expression.
use Rattle.std.specs.Prelude.{ℕ, ◌<◌, List, [], ◌∷◌, ◌++◌, All}
use Rattle.adfs_base.specs.declared.value.Value.{Value}
use Rattle.typed_query.specs.declared.expr.Expr.{Expr}
use Rattle.typed_query.specs.declared.expr.Expr.TheOpen.{Expr-F}
use Rattle.typed_query.specs.declared.expr.Expr.TheFolds.{fold-Expr}
use Rattle.value_text.specs.Valid.{IsValid}

abbrev pub constants_of : Expr-F (List Value) → List Value
constants_of (Expr-F.Constant a) = a ∷ []
constants_of (Expr-F.Captured i) = []
constants_of (Expr-F.Not a) = a
constants_of (Expr-F.Neg a) = a
constants_of (Expr-F.IsNull a negated) = a
constants_of (Expr-F.Binary o a b) = a ++ b

-- the constants that stand in an expression
unfoldable pub constants : Expr → List Value
constants = fold-Expr (List Value) constants_of

abbrev pub captures_of : Expr-F (List ℕ) → List ℕ
captures_of (Expr-F.Constant a) = []
captures_of (Expr-F.Captured i) = i ∷ []
captures_of (Expr-F.Not a) = a
captures_of (Expr-F.Neg a) = a
captures_of (Expr-F.IsNull a negated) = a
captures_of (Expr-F.Binary o a b) = a ++ b

-- the places of the captured values that an expression uses
unfoldable pub captures : Expr → List ℕ
captures = fold-Expr (List ℕ) captures_of

-- each constant of the expression is valid under the texts
pub record HasValidConstants (texts : List (List ℕ)) (expr : Expr) : Type 0 where
  pub each_constant : All (IsValid texts) (constants expr)

-- each capture of the expression has its place below this number
pub record HasCapturesBelow (count : ℕ) (expr : Expr) : Type 0 where
  pub each_capture : All (λ place. place < count) (captures expr)
