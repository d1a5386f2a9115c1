-- The orders of rows are total.
use Rattle.std.proofs.Common.{◌≡◌, ℕ, Bool, true, false, List, [], ◌∷◌, drop, refl, ap, ◌∙◌}
use Rattle.std.specs.Cmp.{IsTotalOrder}
use Rattle.std.specs.Ordering.{ordering_reverse}
use Rattle.std.specs.declared.cmp.Ordering.{Ordering}
use Rattle.std.specs.declared.cmp.Ordering.TheVariants.{Less, Equal, Greater}
use Rattle.std.proofs.lemmas.Cmp.{lists_total, nat_list_cmp_total, on_total, then_total}
use Rattle.value_text.specs.Order.{value_order}
use Rattle.value_text.proofs.Orders.{value_order-total}
use Rattle.answer_rows.specs.Arranged.{Arrangement, Shown, match_order, rows_order, ties_order}
use Rattle.answer_rows.specs.Orders.{directed, first_key, keys_order}

-- ---- orders turned round

twice : (order : Ordering) → ordering_reverse (ordering_reverse order) ≡ order
twice Less = refl
twice Equal = refl
twice Greater = refl

reversed_equal : (order : Ordering) → ordering_reverse order ≡ Equal → order ≡ Equal
reversed_equal Less p = cc
reversed_equal Equal p = refl
reversed_equal Greater p = cc

IsTotalOrder-reverse : {X : Type 0} (order : X → X → Ordering) → IsTotalOrder order → IsTotalOrder (λ x y. ordering_reverse (order x y))
IsTotalOrder-reverse order total = record {
  antisymm = λ x y. ap ordering_reverse (total.antisymm x y);
  trans = λ x y z p q.
      ap ordering_reverse (total.antisymm x z) ∙ twice (order z x)
      ∙ total.trans z y x (total.antisymm z y ∙ q) (total.antisymm y x ∙ p);
  congr = λ x y z p. ap ordering_reverse (total.congr x y z (reversed_equal (order x y) p));
}

IsTotalOrder-directed : {X : Type 0} (down : Bool) (order : X → X → Ordering) → IsTotalOrder order → IsTotalOrder (λ x y. directed down (order x y))
IsTotalOrder-directed true order total = IsTotalOrder-reverse order total
IsTotalOrder-directed false order total = total

IsTotalOrder-equal : {X : Type 0} → IsTotalOrder {K = X} (λ x y. Equal)
IsTotalOrder-equal = record { antisymm = λ x y. refl; trans = λ x y z p q. p; congr = λ x y z p. refl }

-- ---- keys, rows, matches

keys_order-total : (texts : List (List ℕ)) (downs : List Bool) → IsTotalOrder (keys_order texts downs)
keys_order-total texts [] = IsTotalOrder-equal
keys_order-total texts (down ∷ downs) =
    then_total (IsTotalOrder-directed down (λ a b. value_order texts (first_key a) (first_key b)) (on_total first_key (value_order-total texts)))
    (on_total (drop 1) (keys_order-total texts downs))

pub rows_order-total : (texts : List (List ℕ)) → IsTotalOrder (rows_order texts)
rows_order-total texts = on_total (λ (m : Shown). m.row) (lists_total (value_order-total texts))

ties_order-total : (texts : List (List ℕ)) (distinct : Bool) → IsTotalOrder (ties_order texts distinct)
ties_order-total texts true = rows_order-total texts
ties_order-total texts false = on_total (λ (m : Shown). m.numbers) nat_list_cmp_total

pub match_order-total : (texts : List (List ℕ)) (arrangement : Arrangement) → IsTotalOrder (match_order texts arrangement)
match_order-total texts arrangement =
    then_total (on_total (λ (m : Shown). m.keys) (keys_order-total texts arrangement.downs)) (ties_order-total texts arrangement.distinct)
