-- With DISTINCT, one match for each row, whether by places or by runs.
use Rattle.std.proofs.Common.{◌≡◌, ℕ, Bool, true, false, cond, List, refl, sym, ap, ◌∙◌}
use Rattle.std.specs.List.{dedup}
use Rattle.std.specs.Ordering.{is_eq, ordering_then}
use Rattle.std.specs.declared.cmp.Ordering.{Ordering}
use Rattle.std.specs.declared.cmp.Ordering.TheVariants.{Less, Equal, Greater}
use Rattle.sorted_lists.specs.Sorted.{before_by, in_order}
use Rattle.answer_rows.specs.Arranged.{Arrangement, Shown, has_row, kept, match_order, rows_order, ties_order}
use Rattle.answer_rows.specs.Orders.{keys_order}
use Rattle.sorted_lists.proofs.Alike.{in_order-alike}
use Rattle.answer_rows.proofs.OneEach.{one_of_each}
use Rattle.answer_rows.proofs.Totals.{match_order-total, rows_order-total}

-- where two orders one after the other tie, the second does
pub second_by : (a b : Ordering) → is_eq (ordering_then a b) ≡ true → is_eq b ≡ true
second_by Less b is = absurd cc
second_by Equal b is = is
second_by Greater b is = absurd cc

-- matches that tie have one row
pub ties-rows : (texts : List (List ℕ)) (arrangement : Arrangement) → arrangement.distinct ≡ true → (a b : Shown)
    → is_eq (match_order texts arrangement a b) ≡ true → is_eq (rows_order texts a b) ≡ true
ties-rows texts arrangement distinct a b is =
    let second = second_by (keys_order texts arrangement.downs a.keys b.keys) (ties_order texts arrangement.distinct a b) is in
    ap (λ d. is_eq (ties_order texts d a b)) (sym distinct) ∙ second

kept_by : (texts : List (List ℕ)) (arrangement : Arrangement) (matches : List Shown) (distinct : Bool) → arrangement.distinct ≡ distinct
    → in_order (before_by (match_order texts arrangement)) (cond distinct (dedup (has_row texts) (in_order (before_by (rows_order texts)) matches)) matches)
    ≡ in_order (before_by (match_order texts arrangement)) (kept texts distinct matches)
kept_by texts arrangement matches true is =
    in_order-alike (rows_order texts) (match_order texts arrangement) (rows_order-total texts) (match_order-total texts arrangement) (ties-rows texts arrangement is)
    (dedup (has_row texts) (in_order (before_by (rows_order texts)) matches)) (kept texts true matches) (λ z. one_of_each (rows_order texts) (rows_order-total texts) z matches)
kept_by texts arrangement matches false is = refl

pub in_order-kept : (texts : List (List ℕ)) (arrangement : Arrangement) (matches : List Shown)
    → in_order (before_by (match_order texts arrangement))
    (cond arrangement.distinct (dedup (has_row texts) (in_order (before_by (rows_order texts)) matches)) matches)
    ≡ in_order (before_by (match_order texts arrangement)) (kept texts arrangement.distinct matches)
in_order-kept texts arrangement matches = kept_by texts arrangement matches arrangement.distinct refl
