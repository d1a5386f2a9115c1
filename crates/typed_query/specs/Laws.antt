-- What three-valued logic keeps to.
use Rattle.std.specs.Prelude.{◌≡◌, ◌&&◌, ℕ, List, false, All}
use Rattle.adfs_base.specs.declared.value.Value.{Value}
use Rattle.adfs_base.specs.declared.value.Value.TheVariants as value
use Rattle.typed_query.specs.declared.expr.Expr.{Expr}
use Rattle.typed_query.specs.Parts.{HasValidConstants}
use Rattle.typed_query.specs.Val.{conjunction, disjunction, negation, passes, val}
use Rattle.value_text.specs.Valid.{IsValid}

-- the sides of AND may change places, and so may those of OR
pub record SidesChangePlaces : Type 0 where
  pub of_and : (a b : Value) → conjunction a b ≡ conjunction b a
  pub of_or : (a b : Value) → disjunction a b ≡ disjunction b a

-- null and its NOT are null, and no condition of either passes
pub record NullPassesNothing : Type 0 where
  pub stays : negation value.Null ≡ value.Null
  pub fails : passes value.Null ≡ false
  pub turned_fails : passes (negation value.Null) ≡ false

-- a condition with AND passes exactly where both of its sides do, so each side can be tested by itself
abbrev pub PassesByParts : Type 0
PassesByParts = (a b : Value) → passes (conjunction a b) ≡ (passes a && passes b)

-- the value of an expression is valid where its constants and the captured values are
abbrev pub ValuesAreValid : Type 0
ValuesAreValid = (texts : List (List ℕ)) (captured : List Value) (expr : Expr) → HasValidConstants texts expr → All (IsValid texts) captured → IsValid texts (val texts captured expr)
