-- What contracts see of the counters and of a seat, and what calls ask for.
use Rattle.std.specs.Prelude.{◌≡◌, ℕ, List, [], ◌∷◌, ◌+◌, ◌-◌, ◌/◌, ◌*◌, ◌==◌, if◌then◌else◌, ◌<◌, ◌≤◌, ◌⊎◌, map, length, All, sum_by, slice_index}
use Rattle.std.specs.List.{range_with_len, AllByRecursion}
use Rattle.atomic_table.specs.Seated.{TableId}
use Rattle.atomic_table.specs.Table.{Me}
use Rattle.adfs_base.specs.declared.step_answers.Word.{Word}
use Rattle.stage_credits.specs.Layout.{stage_start, sender_of, target_of, place_of, stage_of, IsWord}
use Rattle.stage_credits.specs.Lists.{times, count_below}
use Rattle.stage_credits.specs.Rule.{covers}
use Rattle.stage_credits.specs.Start.{fresh_view, machines_of_workers}
use Rattle.stage_credits.specs.declared.setup.Setup.{Setup}
use Rattle.stage_credits.specs.declared.view.View.{View}
use Rattle.stage_credits.specs.declared.view.Chunk.{Chunk}

-- the counters: which table they are, and the numbers that never change
pub record Counters : Type 0 where
  pub table : TableId
  pub setup : Setup

-- a worker's seat
pub record Seated : Type 0 where
  pub table : TableId
  pub worker : ℕ
  pub machine : ℕ
  pub view : View

-- What the type of a seat keeps: its view stands for one worker of its machine, and whatever the view has is of that machine
pub record IsOfWorker (machine seen : ℕ) (v : View) : Type 0 where
  pub workers : v.workers ≡ machine ∷ []
  pub closed : seen ≡ v.closed
  pub enrolled : (v.enrolled ≡ machine ∷ []) ⊎ (v.enrolled ≡ [])
  pub chunks : AllByRecursion (λ c. c.machine ≡ machine) v.chunks
  pub ended : AllByRecursion (λ m. m ≡ machine) v.ended
  pub open_units : AllByRecursion (λ unit. sender_of v.setup unit ≡ machine) v.open_units
  pub work_units : AllByRecursion (λ unit. target_of unit ≡ machine) v.work_units

-- the view is enrolled, or it has work of a lower stage
abbrev pub MayCharge : Setup → ℕ → ℕ → View → Type 0
MayCharge setup machine stage v = times machine v.enrolled ≡ 0 → 0 < count_below (stage_start setup stage) v.work_units

-- the word is marked in the view
abbrev pub HasMarked : Setup → View → Word → Type 0
HasMarked setup v word = 0 < times (place_of setup word) v.marks

-- the view has marks for all words of the stage that it saw closed
abbrev pub HasMarkedAll : Setup → View → Type 0
HasMarkedAll setup v = (word : Word) → IsWord setup.shape word → stage_of word ≡ v.closed → HasMarked setup v word

-- it is a seat of these counters
pub record IsSeatOf (credits : Counters) (seat : Seated) : Type 0 where
  pub table : seat.table ≡ credits.table
  pub setup : seat.view.setup ≡ credits.setup
  pub machine : seat.machine < credits.setup.shape.machines

-- it is the same worker's seat, of the same counters
pub record IsSameSeat (old new : Seated) : Type 0 where
  pub table : new.table ≡ old.table
  pub setup : new.view.setup ≡ old.view.setup
  pub worker : new.worker ≡ old.worker
  pub machine : new.machine ≡ old.machine

abbrev pub with_view : Seated → View → Seated
with_view seat view = record seat { view = view }

-- the seat of that worker, which has done nothing yet
abbrev pub fresh_seat : Counters → ℕ → Seated
fresh_seat credits worker =
    let machine = worker / credits.setup.shape.workers in
    record { table = credits.table; worker = worker; machine = machine; view = fresh_view credits.setup (machine ∷ []) }

-- one seat for each worker, in order
abbrev pub AreFreshSeats : Counters → List Seated → Type 0
AreFreshSeats credits seats = seats ≡ map (fresh_seat credits) (range_with_len 0 (credits.setup.shape.machines * credits.setup.shape.workers))

-- the seat that stands for all workers from this one on
abbrev pub StandsFrom : Counters → ℕ → TableId → Me ℕ View → Type 0
StandsFrom credits worker table me =
    let shape = credits.setup.shape in
    (table ≡ credits.table) × (me ≡ (fresh_view credits.setup (machines_of_workers shape.workers worker (shape.machines * shape.workers - worker)), []))

-- they are all seats of these counters
pub record AreAllSeats (credits : Counters) (seats : List Seated) : Type 0 where
  pub of : All (λ (s : Seated). s.table ≡ credits.table) seats
  pub count : length seats ≡ credits.setup.shape.machines * credits.setup.shape.workers

-- how many chunks of the seats have that root of that machine
abbrev pub claims : ℕ → ℕ → List Seated → ℕ
claims machine place seats = sum_by (λ s. covers machine place s.view.chunks) seats

-- each root below the cursor is in one chunk of one seat, and no other is in any
abbrev pub ClaimsMeet : ℕ → List ℕ → List Seated → Type 0
ClaimsMeet machines cursors seats =
    (m place : ℕ) → m < machines
    → (place < slice_index cursors m → claims m place seats ≡ 1) × (slice_index cursors m ≤ place → claims m place seats ≡ 0)

-- what the roots of that machine in the chunks weigh
abbrev pub weight_of : (ℕ → ℕ) → ℕ → List Chunk → ℕ
weight_of h machine [] = 0
weight_of h machine (c ∷ cs) = (if c.machine == machine then sum_by h (range_with_len c.first (c.end - c.first)) else 0) + weight_of h machine cs

-- however roots are weighed, those in the chunks of all seats weigh as much as those below the cursors
abbrev pub ChunksWeigh : ℕ → List ℕ → List Seated → Type 0
ChunksWeigh machines cursors seats =
    (h : ℕ → ℕ) (m : ℕ) → m < machines → sum_by (λ s. weight_of h m s.view.chunks) seats ≡ sum_by h (range_with_len 0 (slice_index cursors m))
