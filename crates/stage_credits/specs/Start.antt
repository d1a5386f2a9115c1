-- The words and the views at the start, and how a seat's view is cut and joined.
use Rattle.std.specs.Prelude.{◌≡◌, ℕ, zero, suc, List, [], ◌∷◌, ◌++◌, ◌+◌, ◌*◌, ◌/◌, ◌<◌, length, slice_index}
use Rattle.stage_credits.specs.declared.view.View.{View}
use Rattle.stage_credits.specs.declared.setup.Setup.{Setup}
use Rattle.stage_credits.specs.Layout.{enrolled_of, closed_word, word_count}

-- each machine's workers are enrolled, and all else is 0
pub record StartWords (setup : Setup) (words : List ℕ) : Type 0 where
  pub counted : length words ≡ word_count setup
  pub before : (i : ℕ) → i < enrolled_of setup 0 → slice_index words i ≡ 0
  pub enrolled : (m : ℕ) → m < setup.shape.machines → slice_index words (enrolled_of setup m) ≡ setup.shape.workers
  pub closed : slice_index words (closed_word setup) ≡ 0

-- the machines of so many workers, from a worker on, where each machine has so many
abbrev pub machines_of_workers : ℕ → ℕ → ℕ → List ℕ
machines_of_workers each first zero = []
machines_of_workers each first (suc count) = first / each ∷ machines_of_workers each (first + 1) count

-- the view of enrolled workers of these machines that have done nothing yet
abbrev pub fresh_view : Setup → List ℕ → View
fresh_view setup machines = record { setup = setup; workers = machines; enrolled = machines; open_units = []; work_units = []; chunks = []; ended = []; closed = 0; marks = []; trail = [] }

abbrev pub first_view : Setup → View
first_view setup = fresh_view setup (machines_of_workers setup.shape.workers 0 (setup.shape.machines * setup.shape.workers))

abbrev pub first_of : List ℕ → List ℕ
first_of [] = []
first_of (m ∷ ms) = m ∷ []

abbrev pub rest_of : List ℕ → List ℕ
rest_of [] = []
rest_of (m ∷ ms) = ms

-- a split hands the first worker over
abbrev pub view_left : View → View
view_left v = fresh_view v.setup (rest_of v.workers)

abbrev pub view_handed : View → View
view_handed v = fresh_view v.setup (first_of v.workers)

-- What two views know together. The marks are dropped
abbrev pub joined_view : View → View → View
joined_view v w = record v {
  workers = v.workers ++ w.workers;
  enrolled = v.enrolled ++ w.enrolled;
  open_units = v.open_units ++ w.open_units;
  work_units = v.work_units ++ w.work_units;
  chunks = v.chunks ++ w.chunks;
  marks = [];
}

-- what is left of the second view stands for nobody
abbrev pub spent_view : View
spent_view = fresh_view (record { shape = record { machines = 0; workers = 0; stages = 0; credit = 0; broad = 0; buffer = 0 }; roots = [] }) []
