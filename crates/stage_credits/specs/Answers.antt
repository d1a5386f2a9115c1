-- What the answer of each call tells of the seat's view before and after.
use Rattle.std.specs.Prelude.{◌≡◌, ◌≢◌, ℕ, ◌+◌, ◌<◌, ◌≤◌, min}
use Rattle.adfs_base.specs.declared.step_answers.Charge.{Charge}
use Rattle.adfs_base.specs.declared.step_answers.Charge.TheVariants.{Charged, Full, Moved}
use Rattle.adfs_base.specs.declared.step_answers.Pick.{Pick}
use Rattle.adfs_base.specs.declared.step_answers.Pick.TheVariants as pick
use Rattle.adfs_base.specs.declared.step_answers.Claimed.{Claimed}
use Rattle.adfs_base.specs.declared.step_answers.Claimed.TheVariants as claim
use Rattle.adfs_base.specs.declared.step_answers.Marked.{Marked}
use Rattle.adfs_base.specs.declared.step_answers.Marked.TheVariants as mark
use Rattle.adfs_base.specs.declared.step_answers.Closing.{Closing}
use Rattle.adfs_base.specs.declared.step_answers.Closing.TheVariants as close
use Rattle.stage_credits.specs.declared.setup.Setup.{Setup}
use Rattle.stage_credits.specs.declared.view.View.{View}
use Rattle.stage_credits.specs.Layout.{limit_at, cursor_of, closed_word, roots_of}
use Rattle.stage_credits.specs.Views.{after_look, after_miss, after_charge, after_pick, after_end, after_claim, after_mark, after_rise, after_close}

-- of a unit: it was charged from a number below its limit; or the load found the limit; or the exchange found another number than the load
abbrev pub ChargeTells : Setup → ℕ → View → Charge → View → Type 0
ChargeTells setup unit v Charged w = (seen : ℕ) × (seen < limit_at setup unit) × (w ≡ after_charge (after_look v unit seen) unit seen)
ChargeTells setup unit v (Full seen) w = (seen ≡ limit_at setup unit) × (w ≡ after_look v unit seen)
ChargeTells setup unit v (Moved seen found) w = (seen < limit_at setup unit) × (found ≢ seen) × (w ≡ after_miss (after_look v unit seen) unit found)

-- of a `flying` word: a message was taken from a number above 0; or the load found 0; or the exchange found another number than the load
abbrev pub PickTells : ℕ → View → Pick → View → Type 0
PickTells word v pick.Picked w = (seen : ℕ) × (0 < seen) × (w ≡ after_pick (after_look v word seen) word seen)
PickTells word v (pick.NoneFlying seen) w = (seen ≡ 0) × (w ≡ after_look v word seen)
PickTells word v (pick.Moved seen found) w = (0 < seen) × (found ≢ seen) × (w ≡ after_miss (after_look v word seen) word found)

-- of a machine: the chunk goes from the cursor up to 64 roots on, or to the end; or the load found the end; or the exchange found another number than the load
abbrev pub ClaimTells : Setup → ℕ → View → Claimed → View → Type 0
ClaimTells setup machine v (claim.Chunk first end) w =
    let cursor = cursor_of setup machine in
    (first < end) × (end ≡ min (first + 64) (roots_of setup machine)) × (w ≡ after_claim machine end (after_look v cursor first) cursor first)
ClaimTells setup machine v (claim.Exhausted seen) w = (seen ≡ roots_of setup machine) × (w ≡ after_end machine v (cursor_of setup machine) seen)
ClaimTells setup machine v (claim.Moved seen found) w =
    let cursor = cursor_of setup machine in
    (seen < roots_of setup machine) × (found ≢ seen) × (w ≡ after_miss (after_look v cursor seen) cursor found)

-- of a word: the load found 0, and it is marked; or the load found another number
abbrev pub MarkTells : ℕ → View → Marked → View → Type 0
MarkTells word v mark.Zero w = w ≡ after_mark v word 0
MarkTells word v (mark.Busy seen) w = (0 < seen) × (w ≡ after_look v word seen)

-- the stage is closed; or the exchange found that it had been closed
abbrev pub CloseTells : Setup → View → Closing → View → Type 0
CloseTells setup v close.Closed w = w ≡ after_close v (closed_word setup) v.closed
CloseTells setup v (close.Moved seen found) w = (seen ≡ v.closed) × (seen < found) × (w ≡ after_miss v (closed_word setup) found)

-- of a load of `closed`: it never falls, and where it rose the marks are dropped
pub record ClosedTells (setup : Setup) (v : View) (found : ℕ) (w : View) : Type 0 where
  pub never_falls : v.closed ≤ found
  pub within : found ≤ setup.shape.stages
  pub rose : v.closed < found → w ≡ after_rise v (closed_word setup) found
  pub same : v.closed ≡ found → w ≡ after_look v (closed_word setup) found
