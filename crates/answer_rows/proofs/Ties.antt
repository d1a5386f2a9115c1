-- Values that mean something and tie are one, and so are rows of them.
use Rattle.std.proofs.Common.{◌≡◌, ◌<◌, ℕ, Bool, true, false, List, [], ◌∷◌, length, refl, sym, ap, arith, subst, ◌∙◌, nat_lt}
use Rattle.std.specs.Cmp.Lexicographic.{slice_cmp}
use Rattle.std.specs.List.{AllByRecursion, IsDistinct}
use Rattle.std.specs.Ordering.{is_eq, nat_cmp, ordering_then}
use Rattle.std.specs.Str.{bytes_eq}
use Rattle.std.specs.declared.cmp.Ordering.{Ordering}
use Rattle.std.specs.declared.cmp.Ordering.TheVariants.{Less, Equal, Greater}
use Rattle.std.proofs.lemmas.Bool.{ltb-false, ltb-true}
use Rattle.std.proofs.lemmas.Map.Keys.{apart_from_distinct}
use Rattle.std.proofs.lemmas.Map.Lookups.{exact_bytes, exact_signed}
use Rattle.std.proofs.lemmas.Map.Text.{is_eq-slice_cmp}
use Rattle.adfs_base.specs.declared.value.Value.{Value}
use Rattle.adfs_base.specs.declared.value.Value.TheVariants as value
use Rattle.value_text.specs.Order.{value_order}
use Rattle.value_text.specs.Texts.{text_at}
use Rattle.value_text.specs.Valid.{IsValid}

-- two orders one after the other tie where both do
pub first_ties : (a b : Ordering) → ordering_then a b ≡ Equal → a ≡ Equal
first_ties Less b is = absurd (cc is)
first_ties Equal b is = refl
first_ties Greater b is = absurd (cc is)

pub second_ties : (a b : Ordering) → ordering_then a b ≡ Equal → b ≡ Equal
second_ties Less b is = absurd (cc is)
second_ties Equal b is = is
second_ties Greater b is = absurd (cc is)

pub equal_by : (o : Ordering) → is_eq o ≡ true → o ≡ Equal
equal_by Less is = absurd cc
equal_by Equal is = refl
equal_by Greater is = absurd cc

module _ (texts : List (List ℕ)) (distinct : IsDistinct bytes_eq texts) where
  apart : (a b : ℕ) → a < b → b < length texts → bytes_eq (text_at texts a) (text_at texts b) ≡ false
  apart a b less within = apart_from_distinct bytes_eq texts a b [] distinct less within

  -- two numbers of one text
  texts-one : (a b : ℕ) → a < length texts → b < length texts → slice_cmp nat_cmp (text_at texts a) (text_at texts b) ≡ Equal → a ≡ b
  texts-one a b within within' tie = go (nat_lt a b) refl (nat_lt b a) refl where
    one : text_at texts a ≡ text_at texts b
    one = exact_bytes (text_at texts a) (text_at texts b) tie

    equal : bytes_eq (text_at texts a) (text_at texts b) ≡ true
    equal = sym (is_eq-slice_cmp (text_at texts a) (text_at texts b)) ∙ ap is_eq tie

    back : bytes_eq (text_at texts b) (text_at texts a) ≡ true
    back = subst (λ t. bytes_eq t (text_at texts a) ≡ true) one (subst (λ t. bytes_eq (text_at texts a) t ≡ true) (sym one) equal)

    go : (x : Bool) → nat_lt a b ≡ x → (y : Bool) → nat_lt b a ≡ y → a ≡ b
    go true is y is' = let differ = apart a b (ltb-true a b is) within' in absurd (cc (differ, equal))
    go false is true is' = let differ = apart b a (ltb-true b a is') within in absurd (cc (differ, back))
    go false is false is' = omega (arith, ltb-false a b is, ltb-false b a is')

  pub value-one : (a b : Value) → IsValid texts a → IsValid texts b → value_order texts a b ≡ Equal → a ≡ b
  value-one (value.Int a) (value.Int b) valid valid' tie = ap value.Int (exact_signed a b tie)
  value-one (value.Text a) (value.Text b) valid valid' tie = ap value.Text (texts-one a b valid valid' tie)
  value-one (value.Bool true) (value.Bool true) valid valid' tie = refl
  value-one (value.Bool false) (value.Bool false) valid valid' tie = refl
  value-one (value.Bool true) (value.Bool false) valid valid' tie = absurd (cc tie)
  value-one (value.Bool false) (value.Bool true) valid valid' tie = absurd (cc tie)
  value-one (value.Date a) (value.Date b) valid valid' tie = ap value.Date (exact_signed a b tie)
  value-one value.Null value.Null valid valid' tie = refl
  value-one (value.Int a) (value.Text b) valid valid' tie = absurd (cc tie)
  value-one (value.Int a) (value.Bool b) valid valid' tie = absurd (cc tie)
  value-one (value.Int a) (value.Date b) valid valid' tie = absurd (cc tie)
  value-one (value.Int a) value.Null valid valid' tie = absurd (cc tie)
  value-one (value.Text a) (value.Int b) valid valid' tie = absurd (cc tie)
  value-one (value.Text a) (value.Bool b) valid valid' tie = absurd (cc tie)
  value-one (value.Text a) (value.Date b) valid valid' tie = absurd (cc tie)
  value-one (value.Text a) value.Null valid valid' tie = absurd (cc tie)
  value-one (value.Bool a) (value.Int b) valid valid' tie = absurd (cc tie)
  value-one (value.Bool a) (value.Text b) valid valid' tie = absurd (cc tie)
  value-one (value.Bool a) (value.Date b) valid valid' tie = absurd (cc tie)
  value-one (value.Bool a) value.Null valid valid' tie = absurd (cc tie)
  value-one (value.Date a) (value.Int b) valid valid' tie = absurd (cc tie)
  value-one (value.Date a) (value.Text b) valid valid' tie = absurd (cc tie)
  value-one (value.Date a) (value.Bool b) valid valid' tie = absurd (cc tie)
  value-one (value.Date a) value.Null valid valid' tie = absurd (cc tie)
  value-one value.Null (value.Int b) valid valid' tie = absurd (cc tie)
  value-one value.Null (value.Text b) valid valid' tie = absurd (cc tie)
  value-one value.Null (value.Bool b) valid valid' tie = absurd (cc tie)
  value-one value.Null (value.Date b) valid valid' tie = absurd (cc tie)

  pub row-one : (a b : List Value) → AllByRecursion (IsValid texts) a → AllByRecursion (IsValid texts) b → slice_cmp (value_order texts) a b ≡ Equal → a ≡ b
  row-one [] [] valid valid' tie = refl
  row-one [] (y ∷ ys) valid valid' tie = absurd (cc tie)
  row-one (x ∷ xs) [] valid valid' tie = absurd (cc tie)
  row-one (x ∷ xs) (y ∷ ys) valid valid' tie =
      let first = value-one x y valid.0 valid'.0 (first_ties (value_order texts x y) (slice_cmp (value_order texts) xs ys) tie) in
      let rest = row-one xs ys valid.1 valid'.1 (second_ties (value_order texts x y) (slice_cmp (value_order texts) xs ys) tie) in
      rw (first, rest) refl
