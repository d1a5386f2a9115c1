-- The rule of the counters, which holds between any two steps: of the words, and of all seats' views.
use Rattle.std.specs.Prelude.{◌≡◌, ℕ, List, [], ◌∷◌, ◌+◌, ◌*◌, ◌==◌, ◌<◌, ◌≤◌, ◌&&◌, length, slice_index, sum_by, nat_lt, nat_le}
use mathlib.Core.Option.{some}
use lib.ListN.{get_elem?}
use Rattle.adfs_base.specs.Shape.{IsShape}
use Rattle.stage_credits.specs.declared.view.View.{View}
use Rattle.stage_credits.specs.declared.view.Chunk.{Chunk}
use Rattle.stage_credits.specs.declared.setup.Setup.{Setup}
use Rattle.stage_credits.specs.Layout.{units, stage_start, IsUnit, limit_at, flying_of, cursor_of, enrolled_of, closed_word, word_count, roots_of}
use Rattle.stage_credits.specs.Lists.{one_if, times}

-- how many credits of a unit a view holds
abbrev pub units_held : ℕ → View → ℕ
units_held unit v = times unit v.open_units + times unit v.work_units

-- how many chunks have that root of that machine
abbrev pub covers : ℕ → ℕ → List Chunk → ℕ
covers machine place [] = 0
covers machine place (c ∷ cs) = one_if ((c.machine == machine) && (nat_le c.first place && nat_lt place c.end)) + covers machine place cs

-- it holds of each view
abbrev pub Each : (View → Type 0) → List View → Type 0
Each Q views = (id : ℕ) (v : View) → get_elem? views id ≡ some v → Q v

-- the view holds units that there are
abbrev pub HoldsUnits : Setup → View → Type 0
HoldsUnits setup v = (i : ℕ) → 0 < units_held i v → IsUnit setup i

-- Each `used` word counts the credits that are under way and those that the views hold, and is within its limit
pub record UnitsAddUp (setup : Setup) (words : List ℕ) (views : List View) : Type 0 where
  pub balanced : (i : ℕ) → i < units setup → slice_index words i ≡ slice_index words (flying_of setup i) + sum_by (units_held i) views
  pub limited : (i : ℕ) → i < units setup → slice_index words i ≤ limit_at setup i
  pub unused : (i : ℕ) → i < units setup → ¬ IsUnit setup i → slice_index words i ≡ 0
  pub exist : Each (HoldsUnits setup) views

-- a view that stands for no worker has nothing
pub record HasNothing (v : View) : Type 0 where
  pub chunks : v.chunks ≡ []
  pub open_units : v.open_units ≡ []
  pub work_units : v.work_units ≡ []
  pub enrolled : v.enrolled ≡ []
  pub marks : v.marks ≡ []

abbrev pub IdleHasNothing : View → Type 0
IdleHasNothing v = v.workers ≡ [] → HasNothing v

-- The views stand for all workers, and each number of enrolled workers counts those of the views
pub record WorkersAddUp (setup : Setup) (words : List ℕ) (views : List View) : Type 0 where
  pub workers : sum_by (λ v. length v.workers) views ≡ setup.shape.machines * setup.shape.workers
  pub idle : Each IdleHasNothing views
  pub enrolled : (m : ℕ) → m < setup.shape.machines → slice_index words (enrolled_of setup m) ≡ sum_by (λ v. times m v.enrolled) views

-- the cursors of the machines whose end a view saw are at the end
abbrev pub SawEnds : Setup → List ℕ → View → Type 0
SawEnds setup words v = (m : ℕ) → m < setup.shape.machines → 0 < times m v.ended → slice_index words (cursor_of setup m) ≡ roots_of setup m

-- Each root below a cursor is in one chunk, and no other is in any. Where a worker isn't enrolled any more, its machine's cursor is at the end
pub record ChunksAddUp (setup : Setup) (words : List ℕ) (views : List View) : Type 0 where
  pub below : (m place : ℕ) → m < setup.shape.machines → place < slice_index words (cursor_of setup m) → sum_by (λ v. covers m place v.chunks) views ≡ 1
  pub above : (m place : ℕ) → m < setup.shape.machines → slice_index words (cursor_of setup m) ≤ place → sum_by (λ v. covers m place v.chunks) views ≡ 0
  pub within : (m : ℕ) → m < setup.shape.machines → slice_index words (cursor_of setup m) ≤ roots_of setup m
  pub retired : (m : ℕ) → m < setup.shape.machines → slice_index words (enrolled_of setup m) < setup.shape.workers → slice_index words (cursor_of setup m) ≡ roots_of setup m
  pub ended : Each (SawEnds setup words) views

-- Once a stage is closed no worker is enrolled, and no credit of a closed stage is used
pub record StagesClose (setup : Setup) (words : List ℕ) (views : List View) : Type 0 where
  pub within : slice_index words (closed_word setup) ≤ setup.shape.stages
  pub enrolled : 1 ≤ slice_index words (closed_word setup) → (m : ℕ) → m < setup.shape.machines → slice_index words (enrolled_of setup m) ≡ 0
  pub used : (i : ℕ) → i < units setup → i < stage_start setup (slice_index words (closed_word setup)) → slice_index words i ≡ 0

-- it is a word that must be 0 before the stage closes: at stage 0 a number of enrolled workers, at another one the `used` word of one of its units
pub record IsWordOf (setup : Setup) (stage word : ℕ) : Type 0 where
  pub enrolled : stage ≡ 0 → (m : ℕ) × (m < setup.shape.machines) × (word ≡ enrolled_of setup m)
  pub used : 1 ≤ stage → (stage_start setup stage ≤ word) × (word < stage_start setup (stage + 1)) × IsUnit setup word

-- what a view marked is a word of the stage that it saw closed, and 0
abbrev pub MarksAreZero : Setup → List ℕ → View → Type 0
MarksAreZero setup words v = (word : ℕ) → 0 < times word v.marks → IsWordOf setup v.closed word × (slice_index words word ≡ 0)

-- What a view saw closed is closed, and what it marked stays 0
pub record MarksStay (setup : Setup) (words : List ℕ) (views : List View) : Type 0 where
  pub saw : Each (λ v. v.closed ≤ slice_index words (closed_word setup)) views
  pub zero_yet : Each (MarksAreZero setup words) views

pub record IsSound (setup : Setup) (words : List ℕ) (views : List View) : Type 0 where
  pub shape : IsShape setup.shape
  pub counted : length words ≡ word_count setup
  pub units_add_up : UnitsAddUp setup words views
  pub workers_add_up : WorkersAddUp setup words views
  pub chunks_add_up : ChunksAddUp setup words views
  pub stages_close : StagesClose setup words views
  pub marks_stay : MarksStay setup words views
