-- How an event changes what stands outside the pools, told by the top of its worker's stack.
use Rattle.std.specs.Prelude.{ℕ, ◌+◌, ◌-◌, ◌<◌, ◌≤◌, ◌^◌, Bool, false, not, ◌&&◌, nat_lt, if◌then◌else◌, List, [], ◌∷◌, length, is_some, slice_get, Option, Some, None}
use Rattle.dfs_worker.specs.declared.event.Event.{Event}
use Rattle.dfs_worker.specs.declared.event.Event.TheVariants.{Claim, Retire, Advance, Descend, Append, Charge, Fetch, Post, Push, Pop, Pick, Restore, Discharge, Mark, Close}
use Rattle.dfs_worker.specs.State.{State}
use Rattle.match_context.specs.declared.frame.Frame.{Frame}
use Rattle.match_context.specs.declared.frame.Rest.{Rest}
use Rattle.match_context.specs.declared.frame.Rest.TheVariants as rest
use Rattle.world_core.specs.declared.gauge.Gauge.{Gauge}
use Rattle.world_core.specs.Step.{worker_of}
use Rattle.world_core.specs.World.{World}
use Rattle.run_trace.specs.declared.gauging.Top.{Top}

-- the contexts of a message frame's buffer
abbrev pub held_in : Rest → ℕ
held_in rest.None = 0
held_in (rest.Roots next end) = 0
held_in (rest.Items message next over) = length message.items.items

abbrev pub top_in : List Frame → Top
top_in [] = record { frames = 0; waits = false; held = 0 }
top_in (frame ∷ frames) = record { frames = length (frame ∷ frames); waits = is_some frame.wait; held = held_in frame.rest }

abbrev pub top_at : Option State → Top
top_at None = top_in []
top_at (Some worker) = top_in worker.stack

-- the top of the event's worker
abbrev pub top_of : World → Event → Top
top_of w event = top_at (slice_get w.workers (worker_of event))

abbrev pub so_many : ℕ → ℕ → Gauge
so_many buffers contexts = record { buffers = buffers; contexts = contexts }

abbrev pub one_if : Bool → ℕ
one_if test = if test then 1 else 0

-- What an event puts outside the pools, by its worker's top before and after it: a buffer that is opened; a frame; a child
-- that waits now. What becomes a frame or goes into a buffer stood outside before.
abbrev pub put_out : Event → Top → Top → Gauge
put_out (Claim w) before after = so_many 0 1
put_out (Retire w) before after = so_many 0 0
put_out (Advance w) before after = so_many 0 (one_if (not (nat_lt after.frames before.frames) && after.waits))
put_out (Descend w) before after = so_many 0 0
put_out (Append w) before after = so_many 0 0
put_out (Charge w) before after = so_many 0 0
put_out (Fetch w) before after = so_many 1 0
put_out (Post w stage to) before after = so_many 0 0
put_out (Push w) before after = so_many 0 0
put_out (Pop w stage) before after = so_many 0 0
put_out (Pick w) before after = so_many 0 1
put_out (Restore w) before after = so_many 0 0
put_out (Discharge w) before after = so_many 0 0
put_out (Mark w a b) before after = so_many 0 0
put_out (Close w) before after = so_many 0 0

-- What it takes away: a frame that has ended; a message frame with its buffer and what that held.
abbrev pub taken_back : Event → Top → Top → Gauge
taken_back (Claim w) before after = so_many 0 0
taken_back (Retire w) before after = so_many 0 0
taken_back (Advance w) before after = so_many 0 (one_if (nat_lt after.frames before.frames))
taken_back (Descend w) before after = so_many 0 0
taken_back (Append w) before after = so_many 0 0
taken_back (Charge w) before after = so_many 0 0
taken_back (Fetch w) before after = so_many 0 0
taken_back (Post w stage to) before after = so_many 0 0
taken_back (Push w) before after = so_many 0 0
taken_back (Pop w stage) before after = so_many 0 0
taken_back (Pick w) before after = so_many 0 0
taken_back (Restore w) before after = so_many 1 (1 + before.held)
taken_back (Discharge w) before after = so_many 0 0
taken_back (Mark w a b) before after = so_many 0 0
taken_back (Close w) before after = so_many 0 0

-- what stands outside after both
abbrev pub moved : Gauge → Gauge → Gauge → Gauge
moved gauge more less = so_many (gauge.buffers + more.buffers - less.buffers) (gauge.contexts + more.contexts - less.contexts)

-- The numbers can be told: the sum has 64 bits, and no more is taken away than stands there.
pub record Fitting (gauge more less : Gauge) : Type 0 where
  pub sum_of_buffers : gauge.buffers + more.buffers < 2 ^ 64
  pub fewer_buffers : less.buffers ≤ gauge.buffers + more.buffers
  pub sum_of_contexts : gauge.contexts + more.contexts < 2 ^ 64
  pub fewer_contexts : less.contexts ≤ gauge.contexts + more.contexts
