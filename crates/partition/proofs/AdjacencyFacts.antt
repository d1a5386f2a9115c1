-- Links in one array, and the spans of their lists.
use Rattle.std.proofs.Common.{◌≡◌, ◌∙◌, ap, refl, arith, ◌≤◌, ℕ, suc, Bool, true, false, cond, List, [], ◌∷◌, ◌++◌, length, map, take, drop, length-append, length-drop}
use Rattle.std.proofs.lemmas.List.{drop-append-le, map-append, take-append-le, take_all}
use Rattle.std.specs.Cmp.{IsTotalOrder}
use Rattle.std.specs.List.{AllByRecursion}
use Rattle.std.proofs.lemmas.Cmp.{nat_cmp_total, on_total, then_total}
use Rattle.sorted_lists.specs.Sorted.{in_order, placed}
use Rattle.partition.specs.Kept.{IsSpan, link_order, linked}
use Rattle.partition.specs.declared.link.Link.{Link}
use Rattle.partition.specs.declared.adjacency.Span.{Span}

pub link_order-total : IsTotalOrder link_order
link_order-total = then_total (on_total (λ (l : Link). l.other) nat_cmp_total) (on_total (λ (l : Link). l.edge) nat_cmp_total)

-- ---- lists in order

length-placed : {X : Type 0} (before : X → X → Bool) (x : X) (xs : List X) → length (placed before x xs) ≡ suc (length xs)
length-placed before x [] = refl
length-placed before x (y ∷ ys) = by (before y x) (length-placed before x ys)
  where
    by : (b : Bool) → length (placed before x ys) ≡ suc (length ys) → length (cond b (y ∷ placed before x ys) (x ∷ y ∷ ys)) ≡ suc (suc (length ys))
    by true more = ap suc more
    by false more = refl

pub length-in_order : {X : Type 0} (before : X → X → Bool) (xs : List X) → length (in_order before xs) ≡ length xs
length-in_order before [] = refl
length-in_order before (x ∷ xs) = length-placed before x (in_order before xs) ∙ ap suc (length-in_order before xs)

All-placed : {X : Type 0} (P : X → Type 0) (before : X → X → Bool) (x : X) (xs : List X) → P x → AllByRecursion P xs → AllByRecursion P (placed before x xs)
All-placed P before x [] here all = (here, tt)
All-placed P before x (y ∷ ys) here all =
    elim (before y x) as (λ b. AllByRecursion P (cond b (y ∷ placed before x ys) (x ∷ y ∷ ys)))
    [ true ↦ (all.0, All-placed P before x ys here all.1) | false ↦ (here, all) ]

pub All-in_order : {X : Type 0} (P : X → Type 0) (before : X → X → Bool) (xs : List X) → AllByRecursion P xs → AllByRecursion P (in_order before xs)
All-in_order P before [] all = tt
All-in_order P before (x ∷ xs) all = All-placed P before x (in_order before xs) all.0 (All-in_order P before xs all.1)

map-placed : {X Y : Type 0} (f : X → Y) (before : X → X → Bool) (after : Y → Y → Bool) → ((a b : X) → after (f a) (f b) ≡ before a b) → (x : X) (xs : List X)
    → map f (placed before x xs) ≡ placed after (f x) (map f xs)
map-placed f before after same x [] = refl
map-placed {X} {Y} f before after same x (y ∷ ys) = by (before y x) (same y x) (map-placed f before after same x ys)
  where
    by : (b : Bool) → after (f y) (f x) ≡ b → map f (placed before x ys) ≡ placed after (f x) (map f ys)
        → map f (cond b (y ∷ placed before x ys) (x ∷ y ∷ ys)) ≡ placed after (f x) (f y ∷ map f ys)
    by true is more = rw (is, more) refl
    by false is more = rw is refl

pub map-in_order : {X Y : Type 0} (f : X → Y) (before : X → X → Bool) (after : Y → Y → Bool) → ((a b : X) → after (f a) (f b) ≡ before a b) → (xs : List X)
    → map f (in_order before xs) ≡ in_order after (map f xs)
map-in_order f before after same [] = refl
map-in_order f before after same (x ∷ xs) = map-placed f before after same x (in_order before xs) ∙ ap (placed after (f x)) (map-in_order f before after same xs)

-- ---- spans

linked_still : (links more : List Link) (span : Span) → IsSpan (length links) span → linked (links ++ more) span ≡ linked links span
linked_still links more span fits =
    rw (drop-append-le span.start links more (omega (arith, fits)))
    (take-append-le span.degree (drop span.start links) more (omega (arith, fits, length-drop span.start links)))

spans_kept : (links more : List Link) (spans : List Span) → AllByRecursion (IsSpan (length links)) spans → map (linked (links ++ more)) spans ≡ map (linked links) spans
spans_kept links more [] all = refl
spans_kept links more (s ∷ ss) all = rw (linked_still links more s all.0, spans_kept links more ss all.1) refl

spans_still : (m n : ℕ) (spans : List Span) → m ≤ n → AllByRecursion (IsSpan m) spans → AllByRecursion (IsSpan n) spans
spans_still m n [] le all = tt
spans_still m n (s ∷ ss) le all = (omega (arith, all.0, le), spans_still m n ss le all.1)

linked_last : (links more : List Link) (degree : ℕ) → degree ≡ length more → take degree (drop (length links) (links ++ more)) ≡ more
linked_last links more degree size = rw (drop_front links more) (take_all degree more (omega arith))
  where
    drop_front : {A : Type 0} (xs ys : List A) → drop (length xs) (xs ++ ys) ≡ ys
    drop_front [] ys = refl
    drop_front (x ∷ xs) ys = drop_front xs ys

pub All-push : {X : Type 0} (P : X → Type 0) (xs : List X) (x : X) → AllByRecursion P xs → P x → AllByRecursion P (xs ++ x ∷ [])
All-push P [] x all here = (here, tt)
All-push P (y ∷ ys) x all here = (all.0, All-push P ys x all.1 here)

-- one list more
module _ (links more : List Link) (spans : List Span) (degree : ℕ) (all : AllByRecursion (IsSpan (length links)) spans) (size : degree ≡ length more) where
  pub lists_after : map (linked (links ++ more)) (spans ++ record { start = length links; degree = degree } ∷ []) ≡ map (linked links) spans ++ more ∷ []
  lists_after =
      map-append (linked (links ++ more)) spans (record { start = length links; degree = degree } ∷ [])
      ∙ rw (spans_kept links more spans all, linked_last links more degree size) refl

  pub spans_after : AllByRecursion (IsSpan (length (links ++ more))) (spans ++ record { start = length links; degree = degree } ∷ [])
  spans_after =
      let long = length-append links more in
      All-push (IsSpan (length (links ++ more))) spans (record { start = length links; degree = degree }) (spans_still (length links) (length (links ++ more)) spans (omega (arith, long)) all) (omega (arith, long, size))
