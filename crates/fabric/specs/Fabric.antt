-- What the calls on any fabric answer, and what they leave.
use Rattle.std.specs.Prelude.{◌≡◌, ℕ, ◌/◌}
use Rattle.adfs_base.specs.Shape.{Extents}
use Rattle.adfs_base.specs.declared.step_answers.Charge.{Charge}
use Rattle.adfs_base.specs.declared.step_answers.Charge.TheVariants as charge
use Rattle.adfs_base.specs.declared.step_answers.Claimed.{Claimed}
use Rattle.adfs_base.specs.declared.step_answers.Claimed.TheVariants as claimed
use Rattle.adfs_base.specs.declared.step_answers.Closing.{Closing}
use Rattle.adfs_base.specs.declared.step_answers.Closing.TheVariants as closing
use Rattle.adfs_base.specs.declared.step_answers.Marked.{Marked}
use Rattle.adfs_base.specs.declared.step_answers.Marked.TheVariants as marked
use Rattle.adfs_base.specs.declared.step_answers.Pick.{Pick}
use Rattle.adfs_base.specs.declared.step_answers.Pick.TheVariants as pick
use Rattle.fabric.specs.Account.{Holding, SameHolding, Call, Given, Allows, IsGiven, holds_after}

-- The worker holds something that allows the call.
abbrev pub MayCall : {F : Type 0} → (F → ℕ → Holding → Type 0) → (F → Extents) → F → ℕ → Call → Type 0
MayCall agrees shape fabric worker call = (x : Holding) × (agrees fabric worker x × Allows (shape fabric) x call)

-- the machine of a worker
abbrev pub machine_in : Extents → ℕ → ℕ
machine_in shape worker = worker / shape.workers

-- Its shape and its numbers of roots stay.
pub record SameExtent {F : Type 0} (shape : F → Extents) (roots : F → ℕ → ℕ) (old new : F) : Type 0 where
  pub same_shape : shape new ≡ shape old
  pub same_roots : (machine : ℕ) → roots new machine ≡ roots old machine

-- A ready answer came, of which the fabric's `done` says what it leaves; the worker then holds this.
pub record Ready {F : Type 0} (agrees : F → ℕ → Holding → Type 0) (done : F → ℕ → Call → Given → F → Type 0) (shape : F → Extents) (roots : F → ℕ → ℕ) (old : F) (worker : ℕ) (call : Call) (given : Given) (new : F) : Type 0 where
  pub made : done old worker call given new
  pub something : IsGiven (shape old) (roots old (machine_in (shape old) worker)) (machine_in (shape old) worker) call given
  pub same : SameExtent shape roots old new
  pub holds : (x y : Holding) → agrees old worker x → Allows (shape old) x call → SameHolding (holds_after call given x) y → agrees new worker y

-- An answer came that is not ready, as the fabric's `excused` allows; the worker then holds what `after` says.
pub record Missed {F : Type 0} (agrees : F → ℕ → Holding → Type 0) (excused : F → ℕ → Call → F → Type 0) (shape : F → Extents) (roots : F → ℕ → ℕ) (after : Holding → Holding) (old : F) (worker : ℕ) (call : Call) (new : F) : Type 0 where
  pub allowed : excused old worker call new
  pub same : SameExtent shape roots old new
  pub holds : (x y : Holding) → agrees old worker x → SameHolding (after x) y → agrees new worker y

-- ---- by the cases of an answer
abbrev pub OnClaimed : Claimed → (ℕ → ℕ → Type 0) → Type 0 → Type 0 → Type 0
OnClaimed (claimed.Chunk first end) ready exhausted moved = ready first end
OnClaimed (claimed.Exhausted seen) ready exhausted moved = exhausted
OnClaimed (claimed.Moved seen found) ready exhausted moved = moved

abbrev pub OnCharge : Charge → Type 0 → Type 0 → Type 0
OnCharge charge.Charged ready missed = ready
OnCharge (charge.Full seen) ready missed = missed
OnCharge (charge.Moved seen found) ready missed = missed

abbrev pub OnPick : Pick → Type 0 → Type 0 → Type 0
OnPick pick.Picked ready missed = ready
OnPick (pick.NoneFlying seen) ready missed = missed
OnPick (pick.Moved seen found) ready missed = missed

abbrev pub OnMarked : Marked → Type 0 → Type 0 → Type 0
OnMarked marked.Zero ready missed = ready
OnMarked (marked.Busy seen) ready missed = missed

abbrev pub OnClosing : Closing → Type 0 → Type 0 → Type 0
OnClosing closing.Closed ready missed = ready
OnClosing (closing.Moved seen found) ready missed = missed
