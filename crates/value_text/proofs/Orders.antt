-- The order of values is that of their ranks, then of their numbers, then of their bytes.
use Rattle.std.proofs.Common.{◌≡◌, ◌∙◌, sym, refl, ap, ℕ, ℤ, pos, true, false, List, []}
use Rattle.std.proofs.lemmas.Cmp.{int_cmp_total, nat_cmp_total, nat_list_cmp_total, on_total, then_total}
use Rattle.std.specs.Cmp.{IsTotalOrder}
use Rattle.std.specs.Cmp.Lexicographic.{slice_cmp}
use Rattle.std.specs.Ordering.{int_cmp, nat_cmp, on, ordering_reverse, ordering_then, then_cmp}
use Rattle.std.specs.declared.cmp.Ordering.{Ordering}
use Rattle.std.specs.declared.cmp.Ordering.TheVariants.{Less, Equal, Greater}
use Rattle.adfs_base.specs.declared.value.Value.{Value}
use Rattle.adfs_base.specs.declared.value.Value.TheVariants as value
use Rattle.value_text.specs.Order.{rank, value_order}
use Rattle.value_text.specs.Texts.{text_at}

-- the number that a value of its kind goes by, and the bytes
abbrev number_in : Value → ℤ
number_in (value.Int n) = n
number_in (value.Bool true) = pos 1
number_in (value.Date day) = day
number_in v = pos 0

abbrev bytes_in : List (List ℕ) → Value → List ℕ
bytes_in texts (value.Text number) = text_at texts number
bytes_in texts v = []

abbrev by_parts : List (List ℕ) → Value → Value → Ordering
by_parts texts = then_cmp (on rank nat_cmp) (then_cmp (on number_in int_cmp) (on (bytes_in texts) (slice_cmp nat_cmp)))

by_parts-total : (texts : List (List ℕ)) → IsTotalOrder (by_parts texts)
by_parts-total texts = then_total (on_total rank nat_cmp_total) (then_total (on_total number_in int_cmp_total) (on_total (bytes_in texts) nat_list_cmp_total))

ordering_then-Equal : (o : Ordering) → o ≡ ordering_then o Equal
ordering_then-Equal Less = refl
ordering_then-Equal Equal = refl
ordering_then-Equal Greater = refl

same : (texts : List (List ℕ)) (a b : Value) → value_order texts a b ≡ by_parts texts a b
same texts (value.Int a) (value.Int b) = ordering_then-Equal (int_cmp a b)
same texts (value.Text a) (value.Text b) = refl
same texts (value.Bool true) (value.Bool true) = refl
same texts (value.Bool true) (value.Bool false) = refl
same texts (value.Bool false) (value.Bool true) = refl
same texts (value.Bool false) (value.Bool false) = refl
same texts (value.Date a) (value.Date b) = ordering_then-Equal (int_cmp a b)
same texts (value.Int a) (value.Text b) = refl
same texts (value.Int a) (value.Bool b) = refl
same texts (value.Int a) (value.Date b) = refl
same texts (value.Int a) value.Null = refl
same texts (value.Text a) (value.Int b) = refl
same texts (value.Text a) (value.Bool b) = refl
same texts (value.Text a) (value.Date b) = refl
same texts (value.Text a) value.Null = refl
same texts (value.Bool a) (value.Int b) = refl
same texts (value.Bool a) (value.Text b) = refl
same texts (value.Bool a) (value.Date b) = refl
same texts (value.Bool a) value.Null = refl
same texts (value.Date a) (value.Int b) = refl
same texts (value.Date a) (value.Text b) = refl
same texts (value.Date a) (value.Bool b) = refl
same texts (value.Date a) value.Null = refl
same texts value.Null (value.Int b) = refl
same texts value.Null (value.Text b) = refl
same texts value.Null (value.Bool b) = refl
same texts value.Null (value.Date b) = refl
same texts value.Null value.Null = refl

-- an order that gives the same as a total one is total
IsTotalOrder-same : {K : Type 0} (R S : K → K → Ordering) → ((x y : K) → R x y ≡ S x y) → IsTotalOrder S → IsTotalOrder R
IsTotalOrder-same R S e total = record {
  antisymm = λ x y. e x y ∙ total.antisymm x y ∙ ap ordering_reverse (sym (e y x));
  trans = λ x y z p q. e x z ∙ total.trans x y z (sym (e x y) ∙ p) (sym (e y z) ∙ q);
  congr = λ x y z p. e x z ∙ total.congr x y z (sym (e x y) ∙ p) ∙ sym (e y z);
}

pub value_order-total : (texts : List (List ℕ)) → IsTotalOrder (value_order texts)
value_order-total texts = IsTotalOrder-same (value_order texts) (by_parts texts) (same texts) (by_parts-total texts)
