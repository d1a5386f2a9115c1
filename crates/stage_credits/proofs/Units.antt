-- Each kind of change keeps the sums of the units.
use Rattle.std.proofs.Common.{◌≡◌, ◌≢◌, ℕ, List, ◌+◌, ◌*◌, ◌<◌, ◌≤◌, length, get_or, set, refl, sym, ap, arith, subst, ◌∙◌}
use Rattle.std.proofs.lemmas.List.{get_or-set_other}
use Rattle.std.specs.Prelude.{sum_by}
use mathlib.Core.Option.{some}
use mathlib.Core.Logic.{dite}
use native.Mathlib.Decide.{ℕ_discrete}
use lib.ListN.{get_elem?}
use Rattle.stage_credits.specs.declared.view.View.{View}
use Rattle.stage_credits.specs.declared.setup.Setup.{Setup}
use Rattle.stage_credits.specs.Layout.{units, IsUnit, limit_at, word_count}
use Rattle.stage_credits.specs.Rule.{units_held, HoldsUnits, UnitsAddUp}
use Rattle.stage_credits.proofs.Sums.{sum_by-put}
use Rattle.stage_credits.proofs.Frames.{StaysBetween, get_or-put, Each-put, sum_by-same}

-- a view that differs in one unit that there is
HoldsUnits-one : (setup : Setup) (i : ℕ) (v w : View) → IsUnit setup i → ((k : ℕ) → k ≢ i → units_held k w ≡ units_held k v) → HoldsUnits setup v → HoldsUnits setup w
HoldsUnits-one setup i v w is_unit others old k holds =
    dite (ℕ_discrete k i) (λ (e : k ≡ i). subst (IsUnit setup) (sym e) is_unit) (λ (ne : k ≢ i). old k (let o = others k ne in omega arith))

pub UnitsAddUp-same : (setup : Setup) (words after : List ℕ) (views : List View) (id : ℕ) (v w : View) → get_elem? views id ≡ some v
    → StaysBetween 0 (2 * units setup) words after → ((k : ℕ) → units_held k w ≡ units_held k v) → UnitsAddUp setup words views → UnitsAddUp setup after (set views id w)
UnitsAddUp-same setup words after views id v w at stays same kept = record {
  balanced = λ k below.
      let b = kept.balanced k below in let s = sum_by-same (units_held k) views id v w at (same k) in
      let u = stays k (omega arith) (omega arith) in let f = stays (units setup + k) (omega arith) (omega arith) in omega arith;
  limited = λ k below. let l = kept.limited k below in let u = stays k (omega arith) (omega arith) in omega arith;
  unused = λ k below gap. stays k (omega arith) (omega arith) ∙ kept.unused k below gap;
  exist = Each-put (HoldsUnits setup) views id w (λ k holds. kept.exist id v at k (let s = same k in omega arith)) kept.exist;
}

-- a `used` word becomes n
pub UnitsAddUp-used : (setup : Setup) (words : List ℕ) (views : List View) (id i n : ℕ) (v w : View) → get_elem? views id ≡ some v → length words ≡ word_count setup
    → IsUnit setup i → n + units_held i v ≡ get_or words i 0 + units_held i w → ((k : ℕ) → k ≢ i → units_held k w ≡ units_held k v) → n ≤ limit_at setup i
    → UnitsAddUp setup words views → UnitsAddUp setup (set words i n) (set views id w)
UnitsAddUp-used setup words views id i n v w at count is_unit change others within kept =
    let in_range : i < units setup = is_unit.below in
    let there : i < length words = omega arith in record {
      balanced = λ k below.
          let f : get_or (set words i n) (units setup + k) 0 ≡ get_or words (units setup + k) 0 = get_or-set_other words i (units setup + k) n 0 (omega arith) in
          let P : ℕ → ℕ → Type 0 = λ j m. j < units setup → m ≡ get_or words (units setup + j) 0 + sum_by (units_held j) (set views id w) in
          let goal : get_or (set words i n) k 0 ≡ get_or words (units setup + k) 0 + sum_by (units_held k) (set views id w) =
          get_or-put P words i n k there
          (λ _. let s = sum_by-put (units_held i) views id v w at in let b = kept.balanced i in_range in omega arith)
          (λ ne _. let s = sum_by-put (units_held k) views id v w at in let b = kept.balanced k below in let h = others k ne in omega arith)
          below in
          omega (arith, goal, f);
      limited = λ k below. get_or-put (λ j m. j < units setup → m ≤ limit_at setup j) words i n k there (λ _. within) (λ ne b. kept.limited k b) below;
      unused = λ k below gap.
          get_or-put (λ j m. j < units setup → ¬ IsUnit setup j → m ≡ 0) words i n k there (λ _ g. absurd (g is_unit)) (λ ne b g. kept.unused k b g) below gap;
      exist = Each-put (HoldsUnits setup) views id w (HoldsUnits-one setup i v w is_unit others (kept.exist id v at)) kept.exist;
    }

-- a `flying` word becomes n
pub UnitsAddUp-flying : (setup : Setup) (words : List ℕ) (views : List View) (id i n : ℕ) (v w : View) → get_elem? views id ≡ some v → length words ≡ word_count setup
    → IsUnit setup i → n + units_held i w ≡ get_or words (units setup + i) 0 + units_held i v → ((k : ℕ) → k ≢ i → units_held k w ≡ units_held k v)
    → UnitsAddUp setup words views → UnitsAddUp setup (set words (units setup + i) n) (set views id w)
UnitsAddUp-flying setup words views id i n v w at count is_unit change others kept =
    let in_range : i < units setup = is_unit.below in
    let there : units setup + i < length words = omega arith in
    let used_stay : (k : ℕ) → k < units setup → get_or (set words (units setup + i) n) k 0 ≡ get_or words k 0 = λ k below. get_or-set_other words (units setup + i) k n 0 (omega arith) in record {
      balanced = λ k below.
          let u = used_stay k below in
          let b = kept.balanced k below in
          let s = sum_by-put (units_held k) views id v w at in
          let P : ℕ → ℕ → Type 0 = λ j m. j ≡ units setup + k → get_or words k 0 ≡ m + sum_by (units_held k) (set views id w) in
          let goal : get_or words k 0 ≡ get_or (set words (units setup + i) n) (units setup + k) 0 + sum_by (units_held k) (set views id w) =
          get_or-put P words (units setup + i) n (units setup + k) there
          (λ e. let same : k ≡ i = omega arith in
          let Q : ℕ → Type 0 = λ j. get_or words j 0 ≡ n + sum_by (units_held j) (set views id w) in
          subst Q (sym same) (let s2 = sum_by-put (units_held i) views id v w at in let b2 = kept.balanced i in_range in omega arith))
          (λ ne _. let h = others k (λ e. ne (ap (λ (j : ℕ). units setup + j) e)) in omega arith)
          refl in
          omega (arith, goal, u);
      limited = λ k below. let u = used_stay k below in let l = kept.limited k below in omega arith;
      unused = λ k below gap. used_stay k below ∙ kept.unused k below gap;
      exist = Each-put (HoldsUnits setup) views id w (HoldsUnits-one setup i v w is_unit others (kept.exist id v at)) kept.exist;
    }
