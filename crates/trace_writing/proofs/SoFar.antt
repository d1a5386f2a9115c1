-- How far a run has been written.
use Rattle.std.proofs.Common.{◌≡◌, ◌∙◌, refl, sym, ap, subst, append_assoc, ℕ, List, [], ◌∷◌, ◌++◌, codes, map}
use Rattle.std.proofs.lemmas.List.{append-nil}
use Rattle.std.specs.List.{AllByRecursion}
use Rattle.dfs_worker.specs.declared.event.Event.{Event}
use Rattle.match_context.specs.Tree.{Tree}
use Rattle.match_context.specs.declared.context.Context.{Context}
use Rattle.trace_text.specs.EventLines.{IsEvent, event_line}
use Rattle.trace_text.specs.Headers.{with_feeds}
use Rattle.world_core.specs.Owed.{owed}
use Rattle.world_core.specs.Rows.{IsFinished, all_rows}
use Rattle.world_core.specs.Step.{Run, Step}
use Rattle.world_core.specs.World.{Fits, World}
use Rattle.world_progress.proofs.Runs.{run-more}
use Rattle.trace_writing.specs.Written.{IsWritten, WritesEvents, run_lines}

-- ---- one line more
pub feeds-more : (lines : List (List ℕ)) (line : List ℕ) → with_feeds (lines ++ line ∷ []) ≡ with_feeds lines ++ (line ++ 10 ∷ [])
feeds-more [] line = refl
feeds-more (first ∷ lines) line =
    ap (λ t. first ++ 10 ∷ t) (feeds-more lines line) ∙ sym (append_assoc first (10 ∷ with_feeds lines) (line ++ 10 ∷ []))

lines-more : (events : List Event) (event : Event) → map event_line (events ++ event ∷ []) ≡ map event_line events ++ event_line event ∷ []
lines-more [] event = refl
lines-more (first ∷ events) event = ap (λ lines. event_line first ∷ lines) (lines-more events event)

numbers-more : (events : List Event) (event : Event) → AllByRecursion IsEvent events → IsEvent event → AllByRecursion IsEvent (events ++ event ∷ [])
numbers-more [] event numbers number = (number, tt)
numbers-more (first ∷ events) event numbers number = (numbers.0, numbers-more events event numbers.1 number)

-- ---- a run so far
pub record SoFar (tree : Tree) (start now : World) (old out : List ℕ) : Type 0 where
  pub events : List Event
  pub numbers : AllByRecursion IsEvent events
  pub run : Run tree start events now
  pub lines : out ≡ old ++ with_feeds (map event_line events)
  pub fits : Fits tree now.shared
  pub owes : (row : Context → ℕ) → owed row tree start ≡ owed row tree now

pub so-far-begins : (tree : Tree) (start : World) (out : List ℕ) → Fits tree start.shared → SoFar tree start start out out
so-far-begins tree start out fits =
    record { events = []; numbers = tt; run = refl; lines = sym (append-nil out); fits = fits; owes = λ row. refl }

pub so-far-more : (tree : Tree) (start mid new : World) (old out after : List ℕ) (event : Event) → SoFar tree start mid old out → Step tree mid event new → IsEvent event
    → after ≡ out ++ (event_line event ++ 10 ∷ []) → Fits tree new.shared → ((row : Context → ℕ) → owed row tree mid ≡ owed row tree new) → SoFar tree start new old after
so-far-more tree start mid new old out after event so_far step number written fits owes =
    let events = so_far.events in
    record {
      events = events ++ event ∷ [];
      numbers = numbers-more events event so_far.numbers number;
      run = run-more tree events event start mid new so_far.run step;
      lines =
          written ∙ ap (λ t. t ++ (event_line event ++ 10 ∷ [])) so_far.lines ∙ append_assoc old (with_feeds (map event_line events)) (event_line event ++ 10 ∷ [])
          ∙ ap (λ t. old ++ t) (sym (feeds-more (map event_line events) (event_line event)) ∙ ap with_feeds (sym (lines-more events event)));
      fits = fits;
      owes = λ row. so_far.owes row ∙ owes row;
    }

pub so-far-ends : (tree : Tree) (start end : World) (old out : List ℕ) → SoFar tree start end old out → IsFinished end → WritesEvents tree start old end out
so-far-ends tree start end old out so_far finished =
    record { events = so_far.events; numbers = so_far.numbers; run = so_far.run; finished = finished; lines = so_far.lines }

-- ---- the whole text
pub all-written : (tree : Tree) (start first end : World) (old out after : List ℕ) (rows : List Context) → first ≡ start → WritesEvents tree first old end out
    → after ≡ out ++ (codes "finished" ++ 10 ∷ []) → rows ≡ all_rows end.workers → IsWritten tree start old after rows
all-written tree start first end old out after rows begins events last are =
    let lines = map event_line events.events in
    record {
      end = end;
      text = with_feeds (run_lines events.events);
      is_run = record {
        events = events.events;
        numbers = events.numbers;
        run = subst (λ w. Run tree w events.events end) begins events.run;
        finished = events.finished;
        lines = refl;
      };
      after =
          last ∙ ap (λ t. t ++ (codes "finished" ++ 10 ∷ [])) events.lines ∙ append_assoc old (with_feeds lines) (codes "finished" ++ 10 ∷ [])
          ∙ ap (λ t. old ++ t) (sym (feeds-more lines (codes "finished")));
      rows_are = are;
    }
