-- Where each counter stands among the words of the table.
-- First come the `used` words, a row of them for each stage and sender, then the `flying` words in the same rows, then the cursors, then the numbers of enrolled workers, and last the word `closed`.
-- A row is 16 words long and has one for each target, at most 8. So words of two senders are more than 64 bytes apart, which is a line of the cache. Cursors and numbers of workers are 8 words apart.
use Rattle.std.specs.Prelude.{ℕ, ◌+◌, ◌*◌, ◌/◌, ◌%◌, ◌<◌, ◌≤◌, slice_index}
use Rattle.adfs_base.specs.Shape.{Extents, limit_of}
use Rattle.adfs_base.specs.declared.step_answers.Word.{Word}
use Rattle.adfs_base.specs.declared.step_answers.Word.TheVariants.{Enrolled, Used}
use Rattle.stage_credits.specs.declared.setup.Setup.{Setup}

-- the length of one stage's rows
abbrev pub layer : Setup → ℕ
layer setup = setup.shape.machines * 16

-- where the rows of a stage begin
abbrev pub stage_start : Setup → ℕ → ℕ
stage_start setup stage = stage * layer setup

-- the length of all rows
abbrev pub units : Setup → ℕ
units setup = stage_start setup setup.shape.stages

-- a unit is the credits of one sender, stage and target. Its number is that of its `used` word
abbrev pub unit_of : Setup → ℕ → ℕ → ℕ → ℕ
unit_of setup from stage to = (stage * setup.shape.machines + from) * 16 + to

abbrev pub sender_of : Setup → ℕ → ℕ
sender_of setup unit = unit / 16 % setup.shape.machines

abbrev pub target_of : ℕ → ℕ
target_of unit = unit % 16

-- it is the unit of a stage from 1 on and of two machines. The other words of the rows are never used
pub record IsUnit (setup : Setup) (unit : ℕ) : Type 0 where
  pub late : layer setup ≤ unit
  pub below : unit < units setup
  pub target : target_of unit < setup.shape.machines

-- how many credits a unit has
abbrev pub limit_at : Setup → ℕ → ℕ
limit_at setup unit = limit_of setup.shape (sender_of setup unit) (target_of unit)

-- a unit's `flying` word
abbrev pub flying_of : Setup → ℕ → ℕ
flying_of setup unit = units setup + unit

abbrev pub cursor_of : Setup → ℕ → ℕ
cursor_of setup machine = 2 * units setup + 8 * machine

abbrev pub enrolled_of : Setup → ℕ → ℕ
enrolled_of setup machine = cursor_of setup setup.shape.machines + 8 * machine

abbrev pub closed_word : Setup → ℕ
closed_word setup = enrolled_of setup setup.shape.machines

abbrev pub word_count : Setup → ℕ
word_count setup = closed_word setup + 1

abbrev pub roots_of : Setup → ℕ → ℕ
roots_of setup machine = slice_index setup.roots machine

-- where a word that must be 0 before its stage closes stands
abbrev pub place_of : Setup → Word → ℕ
place_of setup (Enrolled machine) = enrolled_of setup machine
place_of setup (Used from stage to) = unit_of setup from stage to

abbrev pub stage_of : Word → ℕ
stage_of (Enrolled machine) = 0
stage_of (Used from stage to) = stage

-- it is a word of that shape
abbrev pub IsWord : Extents → Word → Type 0
IsWord shape (Enrolled machine) = machine < shape.machines
IsWord shape (Used from stage to) = (from < shape.machines) × (1 ≤ stage) × (stage < shape.stages) × (to < shape.machines)
