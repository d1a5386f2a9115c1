-- The numbers of a run, and the sums that bound what is under way.
use Rattle.std.specs.Prelude.{ℕ, ◌+◌, ◌*◌, ◌-◌, ◌≤◌, ◌==◌, if◌then◌else◌}

pub record Extents : Type 0 where
  pub machines : ℕ
  -- of each machine
  pub workers : ℕ
  pub stages : ℕ
  -- the buffers that may be under way from one machine to one stage of another
  pub credit : ℕ
  -- the same to a stage of its own
  pub broad : ℕ
  -- the contexts that a buffer has room for
  pub buffer : ℕ

-- each number is within its limit
pub record IsShape (shape : Extents) : Type 0 where
  pub some_machine : 1 ≤ shape.machines
  pub machines : shape.machines ≤ 8
  pub some_worker : 1 ≤ shape.workers
  pub workers : shape.workers ≤ 8
  pub some_stage : 1 ≤ shape.stages
  pub stages : shape.stages ≤ 26
  pub some_credit : 1 ≤ shape.credit
  pub credit : shape.credit ≤ 8
  pub broad : shape.broad ≤ 16
  pub some_context : 1 ≤ shape.buffer
  pub buffer : shape.buffer ≤ 64

-- how many buffers may be under way from one machine to one stage of another, or of its own
abbrev pub limit_of : Extents → ℕ → ℕ → ℕ
limit_of shape from to = if from == to then shape.broad else shape.credit

-- the buffers of one machine
abbrev pub pool_of : Extents → ℕ
pool_of shape = (shape.stages - 1) * (shape.broad + (shape.machines - 1) * shape.credit)

-- the buffers of all machines
abbrev pub need_of : Extents → ℕ
need_of shape = shape.machines * pool_of shape

-- the contexts that buffers, frames and waiting children hold at most
abbrev pub contexts_of : Extents → ℕ
contexts_of shape = shape.buffer * need_of shape + 2 * shape.stages * shape.machines * shape.workers
