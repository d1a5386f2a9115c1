-- A unit tells its stage, its sender and its target.
use Rattle.std.proofs.Common.{◌≡◌, ℕ, ◌+◌, ◌-◌, ◌*◌, ◌/◌, ◌%◌, ◌<◌, ◌≤◌, refl, sym, ap, subst, ◌∙◌, arith}
use Rattle.std.proofs.Math.Nat.{mod-lt}
use Rattle.std.proofs.lemmas.Nat.{mod-mul-add}
use native.Mathlib.Decide.{dec_le}
use Rattle.adfs_base.specs.declared.step_answers.Word.TheVariants.{Enrolled, Used}
use Rattle.adfs_base.specs.Shape.{IsShape, limit_of}
use Rattle.stage_credits.specs.declared.setup.Setup.{Setup}
use Rattle.stage_credits.specs.declared.view.View.{View}
use Rattle.stage_credits.specs.Lists.{times}
use Rattle.stage_credits.specs.Rule.{IsWordOf}
use Rattle.stage_credits.specs.Seats.{HasMarkedAll}
use Rattle.stage_credits.specs.Layout.{stage_start, unit_of, sender_of, target_of, limit_at, IsUnit}
use Rattle.stage_credits.proofs.Frames.{stage_start-le}

module _ (setup : Setup) (from stage to : ℕ) (shape : IsShape setup.shape) (from_in : from < setup.shape.machines) (to_in : to < setup.shape.machines) where
  pub target_of-unit_of : target_of (unit_of setup from stage to) ≡ to
  target_of-unit_of = let m = shape.machines in omega arith

  pub sender_of-unit_of : sender_of setup (unit_of setup from stage to) ≡ from
  sender_of-unit_of =
      let m = shape.machines in
      let row : unit_of setup from stage to / 16 ≡ stage * setup.shape.machines + from = omega arith in
      ap (λ (n : ℕ). n % setup.shape.machines) row ∙ mod-mul-add stage setup.shape.machines from from_in

  pub limit_at-unit_of : limit_at setup (unit_of setup from stage to) ≡ limit_of setup.shape from to
  limit_at-unit_of = ap (λ (n : ℕ). limit_of setup.shape n (target_of (unit_of setup from stage to))) sender_of-unit_of ∙ ap (limit_of setup.shape from) target_of-unit_of

  pub stage_start-unit_of : (stage_start setup stage ≤ unit_of setup from stage to) × (unit_of setup from stage to < stage_start setup (stage + 1))
  stage_start-unit_of = let m = shape.machines in (omega arith, omega arith)

  pub IsUnit-unit_of : 1 ≤ stage → stage < setup.shape.stages → IsUnit setup (unit_of setup from stage to)
  IsUnit-unit_of late below = let s = stage_start-unit_of in record {
    late = let l = stage_start-le setup 1 stage late in omega (arith, s.0);
    below = let l = stage_start-le setup (stage + 1) setup.shape.stages (omega arith) in omega (arith, s.1);
    target = let t = target_of-unit_of in omega arith;
  }

-- a word in the rows of a stage is that of its sender and target there
pub unit_of-onto : (setup : Setup) (stage word : ℕ) → IsShape setup.shape → stage_start setup stage ≤ word → word < stage_start setup (stage + 1)
    → word ≡ unit_of setup (sender_of setup word) stage (target_of word)
unit_of-onto setup stage word shape low high =
    let m = setup.shape.machines in
    let row = word / 16 in
    let some_machine : 0 < m = omega (arith, shape.some_machine) in
    let split : word ≡ row * 16 + word % 16 = omega arith in
    let a : stage * m ≤ row = omega arith in
    let b : row < stage * m + m = omega arith in
    let rest : row ≡ stage * m + (row - stage * m) = omega arith in
    let from : row % m ≡ row - stage * m = ap (λ (n : ℕ). n % m) rest ∙ mod-mul-add stage m (row - stage * m) (omega arith) in
    omega (arith, split, rest, from)

-- each word of a stage by its number is one by its name
pub marked_words : (setup : Setup) (v : View) → IsShape setup.shape → v.closed < setup.shape.stages → HasMarkedAll setup v → (word : ℕ) → IsWordOf setup v.closed word → 0 < times word v.marks
marked_words setup v shape below all word is = go (dec_le 1 v.closed)
  where
    go : Dec (1 ≤ v.closed) → 0 < times word v.marks
    go (no d) =
        let m = is.enrolled (omega arith) in
        subst (λ (w : ℕ). 0 < times w v.marks) (sym m.2) (all (Enrolled m.0) m.1 (omega arith))
    go (yes d) =
        let u = is.used d in
        let from = sender_of setup word in
        let to = target_of word in
        let from_in : from < setup.shape.machines = mod-lt (word / 16) (omega (arith, shape.some_machine)) in
        let same : word ≡ unit_of setup from v.closed to = unit_of-onto setup v.closed word shape u.0 u.1 in
        subst (λ (w : ℕ). 0 < times w v.marks) (sym same) (all (Used from v.closed to) (from_in, d, below, u.2.target) refl)
