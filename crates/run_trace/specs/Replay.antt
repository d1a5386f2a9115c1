-- What a text of events is answered, from a world on.
use Rattle.std.specs.Prelude.{ℕ, ◌+◌, ◌==◌, ◌≡◌, Bool, max, if◌then◌else◌, List, [], ◌∷◌, codes, Option, Some, None, Result, Ok, Err, bytes_eq}
use Rattle.dfs_worker.specs.declared.event.Event.{Event}
use Rattle.dfs_worker.specs.declared.guard.Guard.{Guard}
use Rattle.match_context.specs.Tree.{Tree}
use Rattle.trace_text.specs.declared.fault.ReplayFault.{ReplayFault}
use Rattle.trace_text.specs.declared.fault.ReplayFault.TheVariants as fault
use Rattle.trace_text.specs.Reading.{event_of}
use Rattle.world_core.specs.declared.gauge.Gauge.{Gauge}
use Rattle.world_core.specs.Gauge.{gauge_of}
use Rattle.world_core.specs.Step.{guard_of, happens}
use Rattle.world_core.specs.World.{World}
use Rattle.run_trace.specs.declared.replaying.Replayed.{Replayed}

-- the greater of each number
abbrev pub greater : Gauge → Gauge → Gauge
greater a b = record { buffers = max a.buffers b.buffers; contexts = max a.contexts b.contexts }

-- the same with one event more, after which this stands outside the pools
abbrev pub with_event : Replayed → Gauge → Replayed
with_event so_far gauge = record { events = so_far.events + 1; most = greater so_far.most gauge }

abbrev pub is_finished : World → Bool
is_finished w = w.shared.closed == w.shared.shape.stages

-- The first line is number 6: five stand before it, and one more for each event.
abbrev pub line_number : Replayed → ℕ
line_number so_far = so_far.events + 6

abbrev pub finish : World → Replayed → Result Replayed ReplayFault
finish w so_far = if is_finished w then Ok so_far else Err fault.NotFinished

-- the event of a line, where all its guards hold
abbrev pub enabled_on : World → Replayed → Option Guard → Event → Result Event ReplayFault
enabled_on w so_far None event = Ok event
enabled_on w so_far (Some guard) event = Err (fault.NotEnabled (line_number so_far) guard)

abbrev pub event_on : World → Replayed → Option Event → Result Event ReplayFault
event_on w so_far None = Err (fault.BadLine (line_number so_far))
event_on w so_far (Some event) = enabled_on w so_far (guard_of w event) event

abbrev pub after : Tree → (World → Replayed → Result Replayed ReplayFault) → World → Replayed → Result Event ReplayFault → Result Replayed ReplayFault
after tree rest w so_far (Err why) = Err why
after tree rest w so_far (Ok event) = rest (happens tree w event) (with_event so_far (gauge_of (happens tree w event)))

-- The event of the line was made, and the rest goes on from there.
abbrev pub Taken : Tree → World → Replayed → List ℕ → World → Type 0
Taken tree old so_far line new =
    (rest : World → Replayed → Result Replayed ReplayFault) → after tree rest old so_far (event_on old so_far (event_of line)) ≡ rest new (with_event so_far (gauge_of new))

-- the lines from here on, in a world that so many events led to
unfoldable pub replayed : Tree → List (List ℕ) → World → Replayed → Result Replayed ReplayFault
replayed tree [] w so_far = Err fault.NotFinished
replayed tree (line ∷ lines) w so_far =
    if bytes_eq line (codes "finished") then finish w so_far
    else after tree (replayed tree lines) w so_far (event_on w so_far (event_of line))
