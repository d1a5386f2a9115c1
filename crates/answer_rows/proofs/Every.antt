-- What each match's row is, each row of the answer is.
use Rattle.std.proofs.Common.{ℕ, zero, suc, not, Bool, true, false, cond, List, [], ◌∷◌, map, take, Option, Some, None, filter}
use Rattle.std.specs.List.{AllByRecursion}
use Rattle.adfs_base.specs.declared.value.Value.{Value}
use Rattle.sorted_lists.specs.Sorted.{before_by, in_order}
use Rattle.sorted_lists.proofs.Ascending.{All-in_order}
use Rattle.answer_rows.specs.Arranged.{Arrangement, Shown, first_of_each, has_row, kept, limited, match_order, rows_of}

All-filter : {X : Type 0} (P : X → Type 0) (p : X → Bool) (xs : List X) → AllByRecursion P xs → AllByRecursion P (filter p xs)
All-filter P p [] all = tt
All-filter P p (x ∷ xs) all =
    elim (p x) as (λ b. AllByRecursion P (cond b (x ∷ filter p xs) (filter p xs))) [ true ↦ (all.0, All-filter P p xs all.1) | false ↦ All-filter P p xs all.1 ]

All-first_of_each : {X : Type 0} (P : X → Type 0) (same : X → X → Bool) (xs : List X) → AllByRecursion P xs → AllByRecursion P (first_of_each same xs)
All-first_of_each P same [] all = tt
All-first_of_each P same (x ∷ xs) all = (all.0, All-filter P (λ y. not (same x y)) (first_of_each same xs) (All-first_of_each P same xs all.1))

pub All-kept : (P : Shown → Type 0) (texts : List (List ℕ)) (distinct : Bool) (xs : List Shown) → AllByRecursion P xs → AllByRecursion P (kept texts distinct xs)
All-kept P texts true xs all = All-first_of_each P (has_row texts) xs all
All-kept P texts false xs all = all

All-take : {X : Type 0} (P : X → Type 0) (n : ℕ) (xs : List X) → AllByRecursion P xs → AllByRecursion P (take n xs)
All-take P zero xs all = tt
All-take P (suc n) [] all = tt
All-take P (suc n) (x ∷ xs) all = (all.0, All-take P n xs all.1)

pub All-limited : {X : Type 0} (P : X → Type 0) (most : Option ℕ) (xs : List X) → AllByRecursion P xs → AllByRecursion P (limited most xs)
All-limited P None xs all = all
All-limited P (Some n) xs all = All-take P n xs all

All-rows : (P : List Value → Type 0) (xs : List Shown) → AllByRecursion (λ m. P m.row) xs → AllByRecursion P (map (λ m. m.row) xs)
All-rows P [] all = tt
All-rows P (x ∷ xs) all = (all.0, All-rows P xs all.1)

pub All-rows_of : (P : List Value → Type 0) (texts : List (List ℕ)) (arrangement : Arrangement) (matches : List Shown)
    → AllByRecursion (λ m. P m.row) matches → AllByRecursion P (rows_of texts arrangement matches)
All-rows_of P texts arrangement matches all =
    let before = before_by (match_order texts arrangement) in
    let left = kept texts arrangement.distinct matches in
    All-limited P arrangement.limit (map (λ m. m.row) (in_order before left))
    (All-rows P (in_order before left) (All-in_order (λ m. P m.row) before left (All-kept (λ m. P m.row) texts arrangement.distinct matches all)))
