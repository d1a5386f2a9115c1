-- A written run is taken again.
use Rattle.std.proofs.Common.{◌≡◌, ◌∙◌, ap, refl, List, [], ◌∷◌, ◌++◌, append_assoc, codes, length, map}
use Rattle.std.specs.List.{AllByRecursion}
use Rattle.std.specs.Str.Lines.{lines}
use Rattle.dfs_worker.specs.declared.event.Event.{Event}
use Rattle.run_trace.specs.Runs.{greatest}
use Rattle.run_trace.specs.declared.replaying.Replayed.{Replayed}
use Rattle.run_trace.proofs.Replays.{replays_are_runs}
use Rattle.trace_text.specs.EventLines.{IsEvent, event_line}
use Rattle.trace_text.proofs.PlainLines.{ArePlain, event-plain, lines-of-text}
use Rattle.world_core.specs.Gauge.{gauge_of}
use Rattle.trace_writing.specs.Again.{WrittenRunsAreTakenAgain}
use Rattle.trace_writing.specs.Written.{run_lines}

run-plain : (events : List Event) → AllByRecursion IsEvent events → ArePlain (run_lines events)
run-plain [] numbers = (refl, tt)
run-plain (event ∷ events) numbers = (event-plain event numbers.0, run-plain events numbers.1)

pub taken_again : WrittenRunsAreTakenAgain
taken_again tree start end text rest run =
    let events = run.events in
    let told : Replayed = record { events = length events; most = greatest tree start (gauge_of start) events } in
    let read : lines (text ++ rest) ≡ map event_line events ++ codes "finished" ∷ lines rest =
    ap (λ t. lines (t ++ rest)) run.lines ∙ lines-of-text (run_lines events) rest (run-plain events run.numbers)
    ∙ append_assoc (map event_line events) (codes "finished" ∷ []) (lines rest) in
    let again = (replays_are_runs tree start (lines (text ++ rest)) told).1 (record {
      events = events;
      numbers = run.numbers;
      end = end;
      run = run.run;
      finished = run.finished;
      rest = lines rest;
      text = read;
      count = refl;
      most = refl;
    }) in
    (told, again, refl)
