-- The captures that an expression's parts use, one after the other.
use Rattle.std.proofs.Common.{◌≡◌, ◌∙◌, ◌&&◌, ℕ, Bool, true, false, List, [], ◌∷◌, ◌++◌, ◌≤◌, ◌+◌, zero, suc, length, get_or, refl, sym, ap, arith}
use Rattle.std.specs.Prelude.{slice_get}
use Rattle.std.specs.List.{list_all, range_with_len}
use Rattle.typed_expr.specs.declared.query.Capture.{Capture}
use Rattle.adfs_base.specs.declared.value.Value.TheVariants as value
use Rattle.typed_expr.specs.declared.query.Query.{Query}
use Rattle.typed_expr.specs.Parts.{captures}
use Rattle.typed_expr.proofs.Parts.{captures-Constant}
use Rattle.stage_plan.specs.Walk.{conjunct_at, is_known, is_ready, is_whole, no_conjunct}
use Rattle.stage_plan.proofs.Sums.{and_true}

abbrev pub all_known : List Capture → List Bool → List ℕ → Bool
all_known captures known places = list_all (λ place. is_known known (slice_get captures place)) places

pub known-one : (captures : List Capture) (known : List Bool) (place : ℕ) → is_known known (slice_get captures place) ≡ all_known captures known (place ∷ [])
known-one captures known place = sym (and_true (is_known known (slice_get captures place)))

pub known-both : (captures : List Capture) (known : List Bool) (left right : List ℕ)
    → all_known captures known (left ++ right) ≡ (all_known captures known left && all_known captures known right)
known-both captures known [] right = refl
known-both captures known (p ∷ left) right = at_answer (is_known known (slice_get captures p)) (known-both captures known left right) where
  at_answer : (b : Bool) → all_known captures known (left ++ right) ≡ (all_known captures known left && all_known captures known right)
      → (b && all_known captures known (left ++ right)) ≡ ((b && all_known captures known left) && all_known captures known right)
  at_answer true later = later
  at_answer false later = refl

past_end : {X : Type 0} (xs : List X) (n : ℕ) (d : X) → length xs ≤ n → get_or xs n d ≡ d
past_end [] n d past = refl
past_end (x ∷ xs) zero d past = absurd (omega arith)
past_end (x ∷ xs) (suc n) d past = past_end xs n d (omega arith)

-- a conjunct that isn't there waits for nothing
pub whole-past : (query : Query) (known : List Bool) (number : ℕ) → length query.conjuncts ≤ number → is_whole query known number ≡ true
whole-past query known number past =
    ap (is_ready query.captures known) (past_end query.conjuncts number no_conjunct past)
    ∙ ap (all_known query.captures known) (captures-Constant no_conjunct value.Null refl)

-- one number more
pub range-push : (a n m : ℕ) → a + n ≡ m → range_with_len a (n + 1) ≡ range_with_len a n ++ m ∷ []
range-push a zero m is = ap (λ k. k ∷ []) (let e : a ≡ m = omega arith in e)
range-push a (suc n) m is =
    ap (range_with_len a) (let e : suc n + 1 ≡ suc (n + 1) = omega arith in e) ∙ ap (λ xs. a ∷ xs) (range-push (a + 1) n m (omega arith))

-- and uses nothing
pub uses-past : (query : Query) (number : ℕ) → length query.conjuncts ≤ number → captures (conjunct_at query number) ≡ []
uses-past query number past = ap captures (past_end query.conjuncts number no_conjunct past) ∙ captures-Constant no_conjunct value.Null refl
