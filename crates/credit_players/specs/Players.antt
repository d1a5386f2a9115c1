-- What a player keeps: its seat's view has the credits that its fields tell.
use Rattle.std.specs.Prelude.{◌≡◌, ℕ, ◌<◌, ◌≤◌, List, [], ◌∷◌, Option, Some, None, replicate}
use Rattle.stage_credits.specs.Layout.{unit_of, roots_of}
use Rattle.stage_credits.specs.Seats.{Counters, Seated, IsSeatOf, HasMarked}
use Rattle.stage_credits.specs.declared.setup.Setup.{Setup}
use Rattle.adfs_base.specs.declared.step_answers.Word.TheVariants.{Enrolled}
use Rattle.adfs_base.specs.declared.step_answers.Marked.{Marked}
use Rattle.adfs_base.specs.declared.step_answers.Marked.TheVariants.{Zero}
use Rattle.credit_players.specs.declared.player.Player.{Player}
use Rattle.credit_players.specs.declared.player.Buffer.{Buffer}

-- it is of a stage from 1 on and of a machine
abbrev pub IsBuffer : Setup → Buffer → Type 0
IsBuffer setup b = (1 ≤ b.stage) × (b.stage < setup.shape.stages) × (b.machine < setup.shape.machines)

abbrev pub IsBufferOrNone : Setup → Option Buffer → Type 0
IsBufferOrNone setup None = Unit {0}
IsBufferOrNone setup (Some b) = IsBuffer setup b

-- the unit of an open buffer, from this machine
abbrev pub open_unit : Setup → ℕ → Option Buffer → List ℕ
open_unit setup machine None = []
open_unit setup machine (Some b) = unit_of setup machine b.stage b.machine ∷ []

-- the unit of a message in work, to this machine
abbrev pub work_unit : Setup → ℕ → Option Buffer → List ℕ
work_unit setup machine None = []
work_unit setup machine (Some b) = unit_of setup b.machine b.stage machine ∷ []

pub record IsReady (credits : Counters) (p : Player) : Type 0 where
  pub seat : IsSeatOf credits p.seat
  pub enrolled : p.seat.view.enrolled ≡ p.seat.machine ∷ []
  pub is_open : IsBufferOrNone credits.setup p.in_hand
  pub is_work : IsBufferOrNone credits.setup p.in_work
  pub open_units : p.seat.view.open_units ≡ open_unit credits.setup p.seat.machine p.in_hand
  pub work_units : p.seat.view.work_units ≡ work_unit credits.setup p.seat.machine p.in_work

-- a fresh seat's player, with nothing in hand and nothing in work
abbrev pub player_of : Seated → Player
player_of seat = record { seat = seat; in_hand = None; in_work = None; claims = record { chunks = replicate 32 (0, 0); count = 0 } }

-- its seat is of these counters
abbrev pub SitsAt : Counters → Player → Type 0
SitsAt credits p = IsSeatOf credits p.seat

-- One machine without roots, and the stages 0 and 1. The seat is enrolled, and has marked nothing yet
pub record IsAtStart (credits : Counters) (seat : Seated) : Type 0 where
  pub of : IsSeatOf credits seat
  pub machines : credits.setup.shape.machines ≡ 1
  pub stages : credits.setup.shape.stages ≡ 2
  pub roots : roots_of credits.setup 0 ≡ 0
  pub enrolled : seat.view.enrolled ≡ seat.machine ∷ []
  pub closed : seat.view.closed ≡ 0
  pub marks : seat.view.marks ≡ []

-- there are two machines and the stages 0, 1 and 2, so that each buffer of stage 1 or 2 and machine 0 or 1 is one
pub record IsSmallTable (credits : Counters) : Type 0 where
  pub machines : credits.setup.shape.machines ≡ 2
  pub stages : credits.setup.shape.stages ≡ 3

-- the seat has retired, and has marked nothing yet
pub record HasLeft (credits : Counters) (seat : Seated) : Type 0 where
  pub of : IsSeatOf credits seat
  pub machines : credits.setup.shape.machines ≡ 1
  pub stages : credits.setup.shape.stages ≡ 2
  pub closed : seat.view.closed ≡ 0
  pub marks : seat.view.marks ≡ []

-- the shape of that table
pub record IsTiny (credits : Counters) : Type 0 where
  pub machines : credits.setup.shape.machines ≡ 1
  pub stages : credits.setup.shape.stages ≡ 2

-- the seat saw no stage closed, and where the word of stage 0 was found at 0 it is marked
pub record MayClose (credits : Counters) (answer : Marked) (seat : Seated) : Type 0 where
  pub of : IsSeatOf credits seat
  pub tiny : IsTiny credits
  pub closed : seat.view.closed ≡ 0
  pub marked : answer ≡ Zero → HasMarked credits.setup seat.view (Enrolled 0)

-- the seat saw so many stages closed
pub record IsSmallest (credits : Counters) (seat : Seated) (seen : ℕ) : Type 0 where
  pub of : IsSeatOf credits seat
  pub tiny : IsTiny credits
  pub closed : seat.view.closed ≡ seen
