-- The steps on units keep the rule, from any state that meets it.
use Rattle.std.proofs.Common.{◌≡◌, ℕ, Bool, true, false, List, ◌∷◌, ◌+◌, ◌-◌, ◌%◌, ◌^◌, ◌<◌, ◌≤◌, ◌==◌, length, get_or, set, if◌then◌else◌, refl, sym, arith, subst, mod-eq_of_lt}
use mathlib.Core.Option.{some, none}
use lib.ListN.{get_elem?}
use prog.Atomic.{either}
use Rattle.atomic_table.specs.Table.{State, Me, step, Allows, keeps}
use Rattle.adfs_base.specs.Shape.{IsShape}
use Rattle.stage_credits.specs.declared.view.View.{View}
use Rattle.stage_credits.specs.declared.view.Way.TheVariants.{Fetch, Held}
use Rattle.stage_credits.specs.declared.setup.Setup.{Setup}
use Rattle.stage_credits.specs.Layout.{units, IsUnit, sender_of, target_of, limit_at, stage_start, closed_word}
use Rattle.stage_credits.specs.Lists.{times, without}
use Rattle.stage_credits.specs.Views.{with_note, after_exchange, after_look, after_miss, after_charge, after_post, after_pick}
use Rattle.stage_credits.specs.Views.{after_discharge, LooksAt, ChargesAt, PostsAt, PicksAt, DischargesAt}
use Rattle.stage_credits.specs.Rule.{IsSound, units_held}
use Rattle.stage_credits.specs.Seats.{MayCharge}
use Rattle.stage_credits.proofs.Sums.{same_test, sum_by-part, times-cons_same, times-cons_other, times-without_same, times-without_other}
use Rattle.stage_credits.proofs.Sound.{IsSound-look, IsSound-used, IsSound-flying}
use Rattle.stage_credits.proofs.Charging.{above_closed}

abbrev pub holds : Setup → State ℕ View → Type 0
holds setup s = IsSound setup s.words s.views

-- 1 less, as a word takes it off
pub down : (n : ℕ) → 0 < n → n < 18446744073709551616 → (n + (2 ^ 64 - 1)) % 2 ^ 64 ≡ n - 1
down n some_there small = omega arith

pub looked : (setup : Setup) (words : List ℕ) (views : List View) (id i : ℕ) (v : View) → get_elem? views id ≡ some v → 0 < length v.workers → IsSound setup words views
    → IsSound setup (set words i (get_or words i 0)) (set views id (after_look v i (get_or words i 0)))
looked setup words views id i v at one kept =
    let w = after_look v i (get_or words i 0) in
    IsSound-look setup words views id i v w at one (record { workers = refl; enrolled = refl; chunks = refl; ended = refl; closed = refl; marks = refl }) (λ k. refl) kept

pub missed : (setup : Setup) (words : List ℕ) (views : List View) (id i : ℕ) (v : View) → get_elem? views id ≡ some v → 0 < length v.workers → IsSound setup words views
    → IsSound setup (set words i (get_or words i 0)) (set views id (after_miss v i (get_or words i 0)))
missed setup words views id i v at one kept =
    let w = after_miss v i (get_or words i 0) in
    IsSound-look setup words views id i v w at one (record { workers = refl; enrolled = refl; chunks = refl; ended = refl; closed = refl; marks = refl }) (λ k. refl) kept

pub look_allowed : (setup : Setup) (slots id i : ℕ) (me : Me ℕ View) → 0 < length me.0.workers → me.0.setup ≡ setup
    → Allows (holds setup) slots id me i (λ n. n) (LooksAt (step slots i 0 0 none) me)
look_allowed setup slots id i me one same s kept homes at small =
    let n = get_or s.words i 0 in (
      after_look me.0 i n,
      keeps,
      tt,
      looked setup s.words s.views id i me.0 at one kept,
      (refl, subst (λ (p : Setup). i < units p → n ≤ limit_at p i) (sym same) (λ below. kept.units_add_up.limited i below)),
    )

charged : (setup : Setup) (words : List ℕ) (views : List View) (id i seen : ℕ) (v : View) → get_elem? views id ≡ some v → 0 < length v.workers
    → IsUnit setup i → seen < limit_at setup i → (1 ≤ get_or words (closed_word setup) 0 → stage_start setup (get_or words (closed_word setup) 0 + 1) ≤ i) → IsSound setup words views
    → (b : Bool) → (get_or words i 0 == seen) ≡ b
    → IsSound setup (set words i (either b (seen + 1) (get_or words i 0))) (set views id (if b then after_charge v i (get_or words i 0) else after_miss v i (get_or words i 0)))
charged setup words views id i seen v at one is_unit room above kept true e =
    let same : get_or words i 0 ≡ seen = same_test (get_or words i 0) seen e in
    let w = after_charge v i (get_or words i 0) in
    let more = times-cons_same i v.open_units in
    IsSound-used setup words views id i (seen + 1) v w at one (record { workers = refl; enrolled = refl; chunks = refl; ended = refl; closed = refl; marks = refl }) is_unit
    (omega arith) (λ k ne. let o = times-cons_other k i v.open_units ne in omega arith) (omega arith) (λ _ c. above c) kept
charged setup words views id i seen v at one is_unit room above kept false e = missed setup words views id i v at one kept

pub charge_allowed : (setup : Setup) (slots id machine stage i seen : ℕ) (me : Me ℕ View) → 0 < length me.0.workers → machine < setup.shape.machines → stage_start setup stage ≤ i → IsUnit setup i
    → MayCharge setup machine stage me.0 → seen < limit_at setup i
    → Allows (holds setup) slots id me i (λ n. either (n == seen) (seen + 1) n) (ChargesAt (step slots i seen (seen + 1) none) me)
charge_allowed setup slots id machine stage i seen me one machine_in stage_at is_unit may room s kept homes at small =
    let n = get_or s.words i 0 in (
      after_exchange after_charge me.0 i seen n,
      keeps,
      tt,
      charged setup s.words s.views id i seen me.0 at one is_unit room
          (λ c. above_closed setup s.words s.views id machine stage i me.0 at machine_in stage_at is_unit.below may kept c) kept (n == seen) refl,
      refl,
    )

-- a unit that a view holds was counted, so its word is above 0, and what flies with it is within the limit
counts : (setup : Setup) (words : List ℕ) (views : List View) (id i : ℕ) (v : View) → get_elem? views id ≡ some v → i < units setup → IsSound setup words views
    → (get_or words (units setup + i) 0 + units_held i v ≤ get_or words i 0) × (get_or words i 0 ≤ limit_at setup i)
counts setup words views id i v at in_range kept =
    let b = kept.units_add_up.balanced i in_range in let p = sum_by-part (units_held i) views id v at in (omega arith, kept.units_add_up.limited i in_range)

pub limit_small : (setup : Setup) (i : ℕ) → IsShape setup.shape → limit_at setup i ≤ 16
limit_small setup i shape = go (sender_of setup i == target_of i)
  where
    go : (b : Bool) → (if b then setup.shape.broad else setup.shape.credit) ≤ 16
    go true = shape.broad
    go false = let c = shape.credit in omega arith

pub post_allowed : (setup : Setup) (slots id i : ℕ) (me : Me ℕ View) → 0 < length me.0.workers → me.0.setup ≡ setup → i < units setup → 0 < times i me.0.open_units
    → Allows (holds setup) slots id me (units setup + i) (λ n. (n + 1) % 2 ^ 64) (PostsAt (step slots (units setup + i) 1 0 none) me)
post_allowed setup slots id i me one same in_range shown s kept homes at small =
    let word = units setup + i in
    let n = get_or s.words word 0 in
    let c = counts setup s.words s.views id i me.0 at in_range kept in
    let l = limit_small setup i kept.shape in
    let is_unit : IsUnit setup i = kept.units_add_up.exist id me.0 at i (omega arith) in
    let fits : n + 1 < 2 ^ 64 = omega (arith, c.0, c.1) in
    let after : (n + 1) % 2 ^ 64 ≡ n + 1 = mod-eq_of_lt fits in
    let unit : word - units me.0.setup ≡ i = rw same (omega arith) in
    let less : times i (without i me.0.open_units) + 1 ≡ times i me.0.open_units = times-without_same i me.0.open_units shown in
    let W : ℕ → View = λ j. record (with_note Fetch me.0 word n) { open_units = without j me.0.open_units } in
    let S : ℕ → ℕ → Type 0 = λ m j. IsSound setup (set s.words word m) (set s.views id (W j)) in
    let sound : S (n + 1) i =
    IsSound-flying setup s.words s.views id i (n + 1) me.0 (W i) at one (record { workers = refl; enrolled = refl; chunks = refl; ended = refl; closed = refl; marks = refl }) is_unit
    (omega arith) (λ k ne. let o = times-without_other k i me.0.open_units ne in omega arith) kept in
    (after_post me.0 word n, keeps, tt, subst (λ (j : ℕ). S ((n + 1) % 2 ^ 64) j) (sym unit) (subst (λ (m : ℕ). S m i) (sym after) sound), refl)

pub discharge_allowed : (setup : Setup) (slots id i : ℕ) (me : Me ℕ View) → 0 < length me.0.workers → i < units setup → 0 < times i me.0.work_units
    → Allows (holds setup) slots id me i (λ n. (n + (2 ^ 64 - 1)) % 2 ^ 64) (DischargesAt (step slots i 1 0 none) me)
discharge_allowed setup slots id i me one in_range shown s kept homes at small =
    let n = get_or s.words i 0 in
    let c = counts setup s.words s.views id i me.0 at in_range kept in
    let is_unit : IsUnit setup i = kept.units_add_up.exist id me.0 at i (omega arith) in
    let after : (n + (2 ^ 64 - 1)) % 2 ^ 64 ≡ n - 1 = down n (omega (arith, c.0)) small in
    let w = after_discharge me.0 i n in
    let less : times i (without i me.0.work_units) + 1 ≡ times i me.0.work_units = times-without_same i me.0.work_units shown in
    let sound : IsSound setup (set s.words i (n - 1)) (set s.views id w) =
    IsSound-used setup s.words s.views id i (n - 1) me.0 w at one (record { workers = refl; enrolled = refl; chunks = refl; ended = refl; closed = refl; marks = refl }) is_unit
    (omega (arith, c.0)) (λ k ne. let o = times-without_other k i me.0.work_units ne in omega arith) (omega (arith, c.1)) (λ rise _. absurd (omega arith)) kept in
    (w, keeps, tt, subst (λ (m : ℕ). IsSound setup (set s.words i m) (set s.views id w)) (sym after) sound, refl)

picked : (setup : Setup) (words : List ℕ) (views : List View) (id i seen : ℕ) (v : View) → get_elem? views id ≡ some v → 0 < length v.workers → v.setup ≡ setup
    → IsUnit setup i → 0 < seen → IsSound setup words views → (b : Bool) → (get_or words (units setup + i) 0 == seen) ≡ b
    → IsSound setup (set words (units setup + i) (either b (seen - 1) (get_or words (units setup + i) 0)))
    (set views id (if b then after_pick v (units setup + i) (get_or words (units setup + i) 0) else after_miss v (units setup + i) (get_or words (units setup + i) 0)))
picked setup words views id i seen v at one same_setup is_unit some_there kept true e =
    let word = units setup + i in
    let n = get_or words word 0 in
    let same : n ≡ seen = same_test n seen e in
    let unit : word - units v.setup ≡ i = rw same_setup (omega arith) in
    let more = times-cons_same i v.work_units in
    let W : ℕ → View = λ j. record (with_note Held v word n) { work_units = j ∷ v.work_units } in
    let S : ℕ → Type 0 = λ j. IsSound setup (set words word (seen - 1)) (set views id (W j)) in
    subst S (sym unit)
    (IsSound-flying setup words views id i (seen - 1) v (W i) at one (record { workers = refl; enrolled = refl; chunks = refl; ended = refl; closed = refl; marks = refl }) is_unit
    (omega arith) (λ k ne. let o = times-cons_other k i v.work_units ne in omega arith) kept)
picked setup words views id i seen v at one same_setup is_unit some_there kept false e = missed setup words views id (units setup + i) v at one kept

pub pick_allowed : (setup : Setup) (slots id i seen : ℕ) (me : Me ℕ View) → 0 < length me.0.workers → me.0.setup ≡ setup → IsUnit setup i → 0 < seen
    → Allows (holds setup) slots id me (units setup + i) (λ n. either (n == seen) (seen - 1) n) (PicksAt (step slots (units setup + i) seen (seen - 1) none) me)
pick_allowed setup slots id i seen me one same is_unit some_there s kept homes at small =
    let word = units setup + i in
    let n = get_or s.words word 0 in
    (after_exchange after_pick me.0 word seen n, keeps, tt, picked setup s.words s.views id i seen me.0 at one same is_unit some_there kept (n == seen) refl, refl)
