-- The value, the constants and the captures of each kind of expression.
use Rattle.std.proofs.Common.{◌≡◌, ◌∙◌, ap, refl, subst, ℕ, ◌<◌, ◌+◌, Bool, List, [], ◌∷◌, ◌++◌, length, length-append, slice_index_or, All, arith}
use Rattle.std.proofs.lemmas.List.Elements.{All-append, All-nil}
use Rattle.std.proofs.lemmas.List.{get_or-append-add, get_or_append_left}
use Rattle.adfs_base.specs.declared.value.Value.{Value}
use Rattle.adfs_base.specs.declared.value.Value.TheVariants as value
use Rattle.pgql_tree.specs.declared.ast.Op.{Op}
use Rattle.typed_query.specs.declared.expr.Expr.{Expr}
use Rattle.typed_query.specs.declared.expr.Expr.TheVariants.{Constant, Captured, Not, Neg, IsNull, Binary}
use Rattle.typed_query.specs.Val.{applied, minus, negation, null_test, val, val_of}
use Rattle.typed_query.specs.Parts.{HasCapturesBelow, HasValidConstants, captures, captures_of, constants, constants_of}
use Rattle.value_text.specs.Valid.{IsValid}
use Rattle.typed_query.proofs.Folds.{fold-Binary, fold-Captured, fold-Constant, fold-IsNull, fold-Neg, fold-Not}

module _ (texts : List (List ℕ)) (captured : List Value) where
  pub val-Constant : (e : Expr) (a : Value) → e ≡ Constant a → val texts captured e ≡ a
  unfolding val
  val-Constant e a is = ap (val texts captured) is ∙ fold-Constant (val_of texts captured) a

  pub val-Captured : (e : Expr) (i : ℕ) → e ≡ Captured i → val texts captured e ≡ slice_index_or captured i value.Null
  unfolding val
  val-Captured e i is = ap (val texts captured) is ∙ fold-Captured (val_of texts captured) i

  pub val-Not : (e : Expr) (x : Expr) → e ≡ Not x → val texts captured e ≡ negation (val texts captured x)
  unfolding val
  val-Not e x is = ap (val texts captured) is ∙ fold-Not (val_of texts captured) x

  pub val-Neg : (e : Expr) (x : Expr) → e ≡ Neg x → val texts captured e ≡ minus (val texts captured x)
  unfolding val
  val-Neg e x is = ap (val texts captured) is ∙ fold-Neg (val_of texts captured) x

  pub val-IsNull : (e : Expr) (x : Expr) (negated : Bool) → e ≡ IsNull x negated → val texts captured e ≡ null_test (val texts captured x) negated
  unfolding val
  val-IsNull e x negated is = ap (val texts captured) is ∙ fold-IsNull (val_of texts captured) x negated

  pub val-Binary : (e : Expr) (o : Op) (l r : Expr) → e ≡ Binary o l r → val texts captured e ≡ applied texts o (val texts captured l) (val texts captured r)
  unfolding val
  val-Binary e o l r is = ap (val texts captured) is ∙ fold-Binary (val_of texts captured) o l r

pub constants-Constant : (e : Expr) (a : Value) → e ≡ Constant a → constants e ≡ a ∷ []
unfolding constants
constants-Constant e a is = ap constants is ∙ fold-Constant constants_of a

pub constants-Captured : (e : Expr) (i : ℕ) → e ≡ Captured i → constants e ≡ []
unfolding constants
constants-Captured e i is = ap constants is ∙ fold-Captured constants_of i

pub constants-Not : (e : Expr) (x : Expr) → e ≡ Not x → constants e ≡ constants x
unfolding constants
constants-Not e x is = ap constants is ∙ fold-Not constants_of x

pub constants-Neg : (e : Expr) (x : Expr) → e ≡ Neg x → constants e ≡ constants x
unfolding constants
constants-Neg e x is = ap constants is ∙ fold-Neg constants_of x

pub constants-IsNull : (e : Expr) (x : Expr) (negated : Bool) → e ≡ IsNull x negated → constants e ≡ constants x
unfolding constants
constants-IsNull e x negated is = ap constants is ∙ fold-IsNull constants_of x negated

pub constants-Binary : (e : Expr) (o : Op) (l r : Expr) → e ≡ Binary o l r → constants e ≡ constants l ++ constants r
unfolding constants
constants-Binary e o l r is = ap constants is ∙ fold-Binary constants_of o l r

pub captures-Constant : (e : Expr) (a : Value) → e ≡ Constant a → captures e ≡ []
unfolding captures
captures-Constant e a is = ap captures is ∙ fold-Constant captures_of a

pub captures-Captured : (e : Expr) (i : ℕ) → e ≡ Captured i → captures e ≡ i ∷ []
unfolding captures
captures-Captured e i is = ap captures is ∙ fold-Captured captures_of i

pub captures-Not : (e : Expr) (x : Expr) → e ≡ Not x → captures e ≡ captures x
unfolding captures
captures-Not e x is = ap captures is ∙ fold-Not captures_of x

pub captures-Neg : (e : Expr) (x : Expr) → e ≡ Neg x → captures e ≡ captures x
unfolding captures
captures-Neg e x is = ap captures is ∙ fold-Neg captures_of x

pub captures-IsNull : (e : Expr) (x : Expr) (negated : Bool) → e ≡ IsNull x negated → captures e ≡ captures x
unfolding captures
captures-IsNull e x negated is = ap captures is ∙ fold-IsNull captures_of x negated

pub captures-Binary : (e : Expr) (o : Op) (l r : Expr) → e ≡ Binary o l r → captures e ≡ captures l ++ captures r
unfolding captures
captures-Binary e o l r is = ap captures is ∙ fold-Binary captures_of o l r

-- what holds of all elements of two lists in a row holds of those of each
module _ {X : Type 0} (P : X → Type 0) where
  All-front : (xs ys : List X) → All P (xs ++ ys) → All P xs
  All-front xs ys all k d h = subst P (get_or_append_left xs ys d k h) (all k d (omega (arith, length-append xs ys)))

  All-rest : (xs ys : List X) → All P (xs ++ ys) → All P ys
  All-rest xs ys all k d h = subst P (get_or-append-add xs ys k d) (all (length xs + k) d (omega (arith, length-append xs ys)))

-- an expression with valid constants: those of its parts are valid
module _ {texts : List (List ℕ)} {e : Expr} (valid : HasValidConstants texts e) where
  pub constant_is_valid : (a : Value) → e ≡ Constant a → IsValid texts a
  constant_is_valid a is = let all = subst (All (IsValid texts)) (constants-Constant e a is) valid.each_constant in all 0 a (omega arith)

  pub inside-Not : (x : Expr) → e ≡ Not x → HasValidConstants texts x
  inside-Not x is = record { each_constant = subst (All (IsValid texts)) (constants-Not e x is) valid.each_constant }

  pub inside-Neg : (x : Expr) → e ≡ Neg x → HasValidConstants texts x
  inside-Neg x is = record { each_constant = subst (All (IsValid texts)) (constants-Neg e x is) valid.each_constant }

  pub inside-IsNull : (x : Expr) (negated : Bool) → e ≡ IsNull x negated → HasValidConstants texts x
  inside-IsNull x negated is = record { each_constant = subst (All (IsValid texts)) (constants-IsNull e x negated is) valid.each_constant }

  pub left-Binary : (o : Op) (l r : Expr) → e ≡ Binary o l r → HasValidConstants texts l
  left-Binary o l r is = record { each_constant = All-front (IsValid texts) (constants l) (constants r) (subst (All (IsValid texts)) (constants-Binary e o l r is) valid.each_constant) }

  pub right-Binary : (o : Op) (l r : Expr) → e ≡ Binary o l r → HasValidConstants texts r
  right-Binary o l r is = record { each_constant = All-rest (IsValid texts) (constants l) (constants r) (subst (All (IsValid texts)) (constants-Binary e o l r is) valid.each_constant) }

-- an expression whose captures have their places below a number: so have those of its sides
module _ {count : ℕ} {e : Expr} (below : HasCapturesBelow count e) where
  pub below_left : (o : Op) (l r : Expr) → e ≡ Binary o l r → HasCapturesBelow count l
  below_left o l r is = record { each_capture = All-front (λ place. place < count) (captures l) (captures r) (subst (All (λ place. place < count)) (captures-Binary e o l r is) below.each_capture) }

  pub below_right : (o : Op) (l r : Expr) → e ≡ Binary o l r → HasCapturesBelow count r
  below_right o l r is = record { each_capture = All-rest (λ place. place < count) (captures l) (captures r) (subst (All (λ place. place < count)) (captures-Binary e o l r is) below.each_capture) }

-- and the way back
module _ {texts : List (List ℕ)} where
  pub valid-Constant : (a : Value) → IsValid texts a → HasValidConstants texts (Constant a)
  valid-Constant a valid = record { each_constant = rw (constants-Constant (Constant a) a refl) (λ k d h. let e : k ≡ 0 = omega arith in rw e valid) }

  pub valid-Captured : (i : ℕ) → HasValidConstants texts (Captured i)
  valid-Captured i = record { each_constant = rw (constants-Captured (Captured i) i refl) (All-nil (IsValid texts)) }

  pub valid-Not : (x : Expr) → HasValidConstants texts x → HasValidConstants texts (Not x)
  valid-Not x valid = record { each_constant = rw (constants-Not (Not x) x refl) valid.each_constant }

  pub valid-Neg : (x : Expr) → HasValidConstants texts x → HasValidConstants texts (Neg x)
  valid-Neg x valid = record { each_constant = rw (constants-Neg (Neg x) x refl) valid.each_constant }

  pub valid-IsNull : (x : Expr) (negated : Bool) → HasValidConstants texts x → HasValidConstants texts (IsNull x negated)
  valid-IsNull x negated valid = record { each_constant = rw (constants-IsNull (IsNull x negated) x negated refl) valid.each_constant }

  pub valid-Binary : (o : Op) (l r : Expr) → HasValidConstants texts l → HasValidConstants texts r → HasValidConstants texts (Binary o l r)
  valid-Binary o l r left right = record { each_constant = rw (constants-Binary (Binary o l r) o l r refl) (All-append (IsValid texts) (constants l) (constants r) left.each_constant right.each_constant) }

-- the captures of an expression likewise
module _ {count : ℕ} where
  pub below-Constant : (a : Value) → HasCapturesBelow count (Constant a)
  below-Constant a = record { each_capture = rw (captures-Constant (Constant a) a refl) (All-nil (λ place. place < count)) }

  pub below-Captured : (i : ℕ) → i < count → HasCapturesBelow count (Captured i)
  below-Captured i below = record { each_capture = rw (captures-Captured (Captured i) i refl) (λ k d h. let e : k ≡ 0 = omega arith in rw e below) }

  pub below-Not : (x : Expr) → HasCapturesBelow count x → HasCapturesBelow count (Not x)
  below-Not x below = record { each_capture = rw (captures-Not (Not x) x refl) below.each_capture }

  pub below-Neg : (x : Expr) → HasCapturesBelow count x → HasCapturesBelow count (Neg x)
  below-Neg x below = record { each_capture = rw (captures-Neg (Neg x) x refl) below.each_capture }

  pub below-IsNull : (x : Expr) (negated : Bool) → HasCapturesBelow count x → HasCapturesBelow count (IsNull x negated)
  below-IsNull x negated below = record { each_capture = rw (captures-IsNull (IsNull x negated) x negated refl) below.each_capture }

  pub below-Binary : (o : Op) (l r : Expr) → HasCapturesBelow count l → HasCapturesBelow count r → HasCapturesBelow count (Binary o l r)
  below-Binary o l r left right = record { each_capture = rw (captures-Binary (Binary o l r) o l r refl) (All-append (λ place. place < count) (captures l) (captures r) left.each_capture right.each_capture) }
