-- Each kind of change keeps the sums of the workers.
use Rattle.std.proofs.Common.{◌≡◌, ◌≢◌, ℕ, List, ◌+◌, ◌<◌, length, get_or, set, sym, ap, arith, subst, ◌∙◌}
use Rattle.std.proofs.lemmas.List.{get_or-set_same, get_or-set_other}
use Rattle.std.specs.Prelude.{sum_by}
use mathlib.Core.Option.{some}
use mathlib.Core.Logic.{dite}
use native.Mathlib.Decide.{ℕ_discrete}
use lib.ListN.{get_elem?}
use Rattle.stage_credits.specs.declared.view.View.{View}
use Rattle.stage_credits.specs.declared.setup.Setup.{Setup}
use Rattle.stage_credits.specs.Layout.{word_count, enrolled_of, closed_word}
use Rattle.stage_credits.specs.Lists.{times}
use Rattle.stage_credits.specs.Rule.{IdleHasNothing, WorkersAddUp}
use Rattle.stage_credits.proofs.Sums.{sum_by-put}
use Rattle.stage_credits.proofs.Frames.{StaysBetween, Each-put, sum_by-same}

pub IdleHasNothing-some : (v : View) → 0 < length v.workers → IdleHasNothing v
IdleHasNothing-some v some_one none = let e : length v.workers ≡ 0 = ap (λ (l : List ℕ). length l) none in absurd (omega arith)

pub WorkersAddUp-same : (setup : Setup) (words after : List ℕ) (views : List View) (id : ℕ) (v w : View) → get_elem? views id ≡ some v
    → StaysBetween (enrolled_of setup 0) (closed_word setup) words after → 0 < length v.workers → w.workers ≡ v.workers → w.enrolled ≡ v.enrolled
    → WorkersAddUp setup words views → WorkersAddUp setup after (set views id w)
WorkersAddUp-same setup words after views id v w at stays some_one same_workers same_enrolled kept = record {
  workers = sum_by-same (λ u. length u.workers) views id v w at (ap (λ (l : List ℕ). length l) same_workers) ∙ kept.workers;
  idle = let one : 0 < length w.workers = rw same_workers some_one in
      Each-put IdleHasNothing views id w (IdleHasNothing-some w one) kept.idle;
  enrolled = λ m below.
      let e = kept.enrolled m below in let s = sum_by-same (λ u. times m u.enrolled) views id v w at (ap (times m) same_enrolled) in
      let f = stays (enrolled_of setup m) (omega arith) (omega arith) in omega arith;
}

-- a worker of the machine retires
pub WorkersAddUp-retire : (setup : Setup) (words : List ℕ) (views : List View) (id machine n : ℕ) (v w : View) → get_elem? views id ≡ some v
    → length words ≡ word_count setup → machine < setup.shape.machines
    → 0 < length v.workers → w.workers ≡ v.workers → n + 1 ≡ get_or words (enrolled_of setup machine) 0 → times machine w.enrolled + 1 ≡ times machine v.enrolled
    → ((k : ℕ) → k ≢ machine → times k w.enrolled ≡ times k v.enrolled)
    → WorkersAddUp setup words views → WorkersAddUp setup (set words (enrolled_of setup machine) n) (set views id w)
WorkersAddUp-retire setup words views id machine n v w at count machine_in some_one same_workers down less others kept =
    let x = enrolled_of setup machine in
    let there : x < length words = omega arith in record {
      workers = sum_by-same (λ u. length u.workers) views id v w at (ap (λ (l : List ℕ). length l) same_workers) ∙ kept.workers;
      idle = let one : 0 < length w.workers = rw same_workers some_one in
          Each-put IdleHasNothing views id w (IdleHasNothing-some w one) kept.idle;
      enrolled = λ m below.
          let s = sum_by-put (λ u. times m u.enrolled) views id v w at in
          let e = kept.enrolled m below in
          dite (ℕ_discrete m machine)
          (λ (same : m ≡ machine).
          let P : ℕ → Type 0 = λ j. get_or (set words x n) (enrolled_of setup j) 0 ≡ sum_by (λ u. times j u.enrolled) (set views id w) in
          let s2 = sum_by-put (λ u. times machine u.enrolled) views id v w at in
          let e2 = kept.enrolled machine machine_in in
          subst P (sym same) (get_or-set_same words x n 0 there ∙ omega arith))
          (λ (ne : m ≢ machine).
          let f : get_or (set words x n) (enrolled_of setup m) 0 ≡ get_or words (enrolled_of setup m) 0 = get_or-set_other words x (enrolled_of setup m) n 0 (λ h. ne (omega arith)) in
          let o = others m ne in omega arith);
    }
