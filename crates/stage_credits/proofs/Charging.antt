-- Who may charge a stage is above the closed stages.
use Rattle.std.proofs.Common.{◌≡◌, ℕ, Bool, true, false, List, [], ◌∷◌, ◌+◌, ◌<◌, ◌≤◌, ◌==◌, get_or, refl, ap, arith, nat_lt, eq-eqb}
use mathlib.Core.Option.{some}
use native.Mathlib.Decide.{dec_le}
use lib.ListN.{get_elem?}
use Rattle.stage_credits.specs.declared.view.View.{View}
use Rattle.stage_credits.specs.declared.setup.Setup.{Setup}
use Rattle.stage_credits.specs.Layout.{units, stage_start, closed_word}
use Rattle.stage_credits.specs.Lists.{one_if, times, count_below}
use Rattle.stage_credits.specs.Rule.{IsSound, units_held}
use Rattle.stage_credits.proofs.Sums.{sum_by-part}
use Rattle.std.proofs.lemmas.Bool.Decides.{nat_tests}
use Rattle.stage_credits.proofs.Frames.{stage_start-le}
use Rattle.stage_credits.specs.Seats.{MayCharge}

some_below : (n : ℕ) (xs : List ℕ) → 0 < count_below n xs → (j : ℕ) × (j < n) × (0 < times j xs)
some_below n [] some_there = absurd (omega arith)
some_below n (x ∷ xs) some_there = go (nat_lt x n) refl (some_below n xs)
  where
    go : (b : Bool) → nat_lt x n ≡ b → (0 < count_below n xs → (j : ℕ) × (j < n) × (0 < times j xs)) → (j : ℕ) × (j < n) × (0 < times j (x ∷ xs))
    go true e rest = (x, grind (arith, nat_tests), (let here : one_if (x == x) ≡ 1 = ap one_if (eq-eqb x x refl) in omega arith))
    go false e rest = let none : one_if (nat_lt x n) ≡ 0 = ap one_if e in let r = rest (omega arith) in (r.0, r.1, omega (arith, r.2))

stage_above : (setup : Setup) (words : List ℕ) (views : List View) (id machine stage i : ℕ) (v : View) → get_elem? views id ≡ some v → machine < setup.shape.machines
    → stage_start setup stage ≤ i → i < units setup → MayCharge setup machine stage v → IsSound setup words views → 1 ≤ get_or words (closed_word setup) 0
    → Dec (stage ≤ get_or words (closed_word setup) 0) → get_or words (closed_word setup) 0 + 1 ≤ stage
stage_above setup words views id machine stage i v at machine_in stage_at in_range may kept begun (no d) = omega arith
stage_above setup words views id machine stage i v at machine_in stage_at in_range may kept begun (yes d) = go (dec_le 1 (times machine v.enrolled))
  where
    go : Dec (1 ≤ times machine v.enrolled) → get_or words (closed_word setup) 0 + 1 ≤ stage
    go (yes e) =
        let p = sum_by-part (λ u. times machine u.enrolled) views id v at in
        let w = kept.workers_add_up.enrolled machine machine_in in
        let z = kept.stages_close.enrolled begun machine machine_in in
        absurd (omega arith)
    go (no e) =
        let j = some_below (stage_start setup stage) v.work_units (may (omega arith)) in
        let in_range' : j.0 < units setup = omega (arith, j.1) in
        let s = stage_start-le setup stage (get_or words (closed_word setup) 0) d in
        let p = sum_by-part (units_held j.0) views id v at in
        let b = kept.units_add_up.balanced j.0 in_range' in
        let z = kept.stages_close.used j.0 in_range' (omega (arith, j.1)) in
        absurd (omega (arith, j.2))

-- the unit is of a stage above the closed ones
pub above_closed : (setup : Setup) (words : List ℕ) (views : List View) (id machine stage i : ℕ) (v : View) → get_elem? views id ≡ some v → machine < setup.shape.machines
    → stage_start setup stage ≤ i → i < units setup → MayCharge setup machine stage v → IsSound setup words views → 1 ≤ get_or words (closed_word setup) 0
    → stage_start setup (get_or words (closed_word setup) 0 + 1) ≤ i
above_closed setup words views id machine stage i v at machine_in stage_at in_range may kept begun =
    let a = stage_above setup words views id machine stage i v at machine_in stage_at in_range may kept begun (dec_le stage (get_or words (closed_word setup) 0)) in
    let s = stage_start-le setup (get_or words (closed_word setup) 0 + 1) stage a in
    omega arith
