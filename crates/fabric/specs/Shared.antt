-- What all workers share, as contracts see it.
use Rattle.std.specs.Prelude.{◌≡◌, ℕ, ◌+◌, ◌-◌, ◌*◌, ◌/◌, ◌<◌, ◌≤◌, ◌&&◌, max, nat_lt, if◌then◌else◌, List, [], length, slice_index, slice_get, replicate, Option, None}
use Rattle.adfs_base.specs.Shape.{Extents, IsShape, pool_of}
use Rattle.adfs_base.specs.declared.step_answers.Word.{Word}
use Rattle.adfs_base.specs.declared.step_answers.Word.TheVariants.{Enrolled, Used}
use Rattle.match_context.specs.declared.message.Message.{Message}

pub record Shared : Type 0 where
  pub shape : Extents
  -- how many roots each machine has
  pub roots : List ℕ
  -- how many buffers each machine's pool holds, all of them empty
  pub pools : List ℕ
  -- the messages for each machine and stage, the oldest first
  pub inboxes : List (List Message)
  -- by sender, stage and target: the credits that are taken, and how many of these have a message on its way
  pub used : List ℕ
  pub flying : List ℕ
  -- the first root of each machine that isn't claimed
  pub cursors : List ℕ
  -- how many workers of each machine are enrolled
  pub enrolled : List ℕ
  -- how many stages are closed
  pub closed : ℕ

-- Workers are numbered machine by machine.
abbrev pub machine_of : Shared → ℕ → ℕ
machine_of s worker = worker / s.shape.workers

-- There is such a worker.
abbrev pub IsWorkerOf : Shared → ℕ → Type 0
IsWorkerOf s worker = worker < s.shape.machines * s.shape.workers

-- There is such a stage for messages: each but the first.
abbrev pub IsMessageStage : Shared → ℕ → Type 0
IsMessageStage s stage = (0 < stage) × (stage < s.shape.stages)

-- There are credits of this sender, stage and target.
abbrev pub IsUnit : Shared → ℕ → ℕ → ℕ → Type 0
IsUnit s from stage to = (from < s.shape.machines) × (0 < stage) × (stage < s.shape.stages) × (to < s.shape.machines)

-- the place of a sender, stage and target in the tables; each machine and stage has a row
abbrev pub place : Shared → ℕ → ℕ → ℕ → ℕ
place s from stage to = (from * s.shape.stages + stage) * s.shape.machines + to

-- These are numbers of what is there.
abbrev pub used_at : Shared → ℕ → ℕ → ℕ → ℕ
used_at s from stage to = slice_index s.used (place s from stage to)

abbrev pub flying_at : Shared → ℕ → ℕ → ℕ → ℕ
flying_at s from stage to = slice_index s.flying (place s from stage to)

abbrev pub roots_at : Shared → ℕ → ℕ
roots_at s machine = slice_index s.roots machine

abbrev pub cursor_at : Shared → ℕ → ℕ
cursor_at s machine = slice_index s.cursors machine

abbrev pub enrolled_at : Shared → ℕ → ℕ
enrolled_at s machine = slice_index s.enrolled machine

abbrev pub pool_at : Shared → ℕ → ℕ
pool_at s machine = slice_index s.pools machine

-- the number of a word that must be 0 before its stage can close
abbrev pub word_at : Shared → Word → ℕ
word_at s (Enrolled machine) = enrolled_at s machine
word_at s (Used from stage to) = used_at s from stage to

-- There is such a word, and it is of that stage.
abbrev pub IsWordOf : Shared → ℕ → Word → Type 0
IsWordOf s stage (Enrolled machine) = (stage ≡ 0) × (machine < s.shape.machines)
IsWordOf s stage (Used from its_stage to) = (stage ≡ its_stage) × IsUnit s from its_stage to

-- the place of an inbox
abbrev pub inbox_place : Shared → ℕ → ℕ → ℕ
inbox_place s machine stage = machine * s.shape.stages + stage

-- the messages of an inbox, if there is one
abbrev pub inbox_at : Shared → ℕ → ℕ → Option (List Message)
inbox_at s machine stage =
    if nat_lt 0 stage && nat_lt stage s.shape.stages then slice_get s.inboxes (inbox_place s machine stage) else None

-- the messages that an inbox has room for
abbrev pub room_of : Extents → ℕ
room_of shape = max 1 (shape.broad + (shape.machines - 1) * shape.credit)

-- each table has its size, and the stages closed are among the stages
pub record IsShared (s : Shared) : Type 0 where
  pub shape : IsShape s.shape
  pub roots : length s.roots ≡ s.shape.machines
  pub pools : length s.pools ≡ s.shape.machines
  pub inboxes : length s.inboxes ≡ s.shape.machines * s.shape.stages
  pub used : length s.used ≡ s.shape.machines * s.shape.stages * s.shape.machines
  pub flying : length s.flying ≡ s.shape.machines * s.shape.stages * s.shape.machines
  pub cursors : length s.cursors ≡ s.shape.machines
  pub enrolled : length s.enrolled ≡ s.shape.machines
  pub closed : s.closed ≤ s.shape.stages

-- at the start all pools are full, all workers enrolled, and all else is 0 or empty
abbrev pub start : Extents → List ℕ → Shared
start shape roots =
    record {
      shape = shape;
      roots = roots;
      pools = replicate shape.machines (pool_of shape);
      inboxes = replicate (shape.machines * shape.stages) [];
      used = replicate (shape.machines * shape.stages * shape.machines) 0;
      flying = replicate (shape.machines * shape.stages * shape.machines) 0;
      cursors = replicate shape.machines 0;
      enrolled = replicate shape.machines shape.workers;
      closed = 0;
    }
