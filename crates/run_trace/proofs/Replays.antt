-- A text is taken again exactly where it is a run's.
use Rattle.std.proofs.Common.{◌≡◌, ◌∙◌, ap, sym, subst, refl, arith, rules, cond, ℕ, ◌+◌, Bool, true, false, List, [], ◌∷◌, ◌++◌, codes, length, map, Option, Some, None, Result, Ok, Err}
use Rattle.std.proofs.lemmas.Slice.Eq.{bytes_eq-Decides}
use Rattle.std.specs.List.{AllByRecursion}
use Rattle.std.specs.Str.{bytes_eq}
use Rattle.dfs_worker.specs.declared.event.Event.{Event}
use Rattle.match_context.specs.Tree.{Tree}
use Rattle.trace_text.specs.declared.fault.ReplayFault.{ReplayFault}
use Rattle.trace_text.specs.declared.fault.ReplayFault.TheVariants as fault
use Rattle.trace_text.specs.Faults.{Gives, GivesFault}
use Rattle.trace_text.specs.EventLines.{IsEvent, event_line}
use Rattle.trace_text.specs.Reading.{event_of}
use Rattle.trace_text.proofs.Lines.{line_of_said, line_said}
use Rattle.dfs_worker.specs.declared.event.Event.TheVariants.{Claim, Retire, Advance, Descend, Append, Charge, Fetch, Post, Push, Pop, Pick, Restore, Discharge, Mark, Close}
use Rattle.dfs_worker.specs.declared.guard.Guard.{Guard}
use Rattle.std.proofs.lemmas.Bool.Decides.{nat_tests}
use Rattle.world_core.specs.Gauge.{gauge_of}
use Rattle.world_core.specs.Rows.{IsFinished}
use Rattle.world_core.specs.Step.{Run, guard_of, happens}
use Rattle.world_core.specs.World.{World}
use Rattle.run_trace.specs.declared.replaying.Replayed.{Replayed}
use Rattle.run_trace.specs.Replay.{after, enabled_on, event_on, finish, Taken, is_finished, replayed, with_event}
use Rattle.run_trace.specs.Runs.{ReplaysAreRuns, begun, greatest}

-- ---- one line of the definition
pub lines_over : (tree : Tree) (w : World) (so_far : Replayed) → replayed tree [] w so_far ≡ Err fault.NotFinished
unfolding replayed
lines_over tree w so_far = refl

pub line_finished : (tree : Tree) (line : List ℕ) (lines : List (List ℕ)) (w : World) (so_far : Replayed) → bytes_eq line (codes "finished") ≡ true
    → replayed tree (line ∷ lines) w so_far ≡ finish w so_far
unfolding replayed
line_finished tree line lines w so_far is = ap (λ b. cond b (finish w so_far) (after tree (replayed tree lines) w so_far (event_on w so_far (event_of line)))) is

pub line_event : (tree : Tree) (line : List ℕ) (lines : List (List ℕ)) (w : World) (so_far : Replayed) → bytes_eq line (codes "finished") ≡ false
    → replayed tree (line ∷ lines) w so_far ≡ after tree (replayed tree lines) w so_far (event_on w so_far (event_of line))
unfolding replayed
line_event tree line lines w so_far is = ap (λ b. cond b (finish w so_far) (after tree (replayed tree lines) w so_far (event_on w so_far (event_of line)))) is

-- ---- what a call gives
pub gives : (result due : Result Replayed ReplayFault) → result ≡ due → Gives (λ told. told) result due
gives (Ok told) due is = sym is
gives (Err fault.NoMemory) due is = tt
gives (Err (fault.BadLine number)) due is = sym is
gives (Err (fault.NotEnabled number guard)) due is = sym is
gives (Err fault.NotFinished) due is = sym is

-- a line's fault is that of the text
pub gives_fault : (tree : Tree) (rest : World → Replayed → Result Replayed ReplayFault) (w : World) (so_far : Replayed) (why : ReplayFault) (event : Result Event ReplayFault)
    (due : Result Replayed ReplayFault) → due ≡ after tree rest w so_far event → GivesFault why event → Gives (λ told. told) (Err why) due
gives_fault tree rest w so_far fault.NoMemory event due is gives = tt
gives_fault tree rest w so_far (fault.BadLine number) event due is gives = is ∙ ap (after tree rest w so_far) gives
gives_fault tree rest w so_far (fault.NotEnabled number guard) event due is gives = is ∙ ap (after tree rest w so_far) gives
gives_fault tree rest w so_far fault.NotFinished event due is gives = is ∙ ap (after tree rest w so_far) gives

-- ---- one turn of the loop over lines
pub left_finished : (tree : Tree) (line : List ℕ) (left lines : List (List ℕ)) (w : World) (so_far : Replayed) (whole result : Result Replayed ReplayFault)
    → whole ≡ replayed tree left w so_far → left ≡ line ∷ lines → true ≡ bytes_eq line (codes "finished") → result ≡ finish w so_far → Gives (λ told. told) result whole
left_finished tree line left lines w so_far whole result is here finished given =
    gives result whole (given ∙ sym (line_finished tree line lines w so_far (sym finished)) ∙ sym (is ∙ ap (λ left. replayed tree left w so_far) here))

pub left_fault : (tree : Tree) (line : List ℕ) (left lines : List (List ℕ)) (w : World) (so_far : Replayed) (whole result : Result Replayed ReplayFault) (why : ReplayFault)
    → whole ≡ replayed tree left w so_far → left ≡ line ∷ lines → false ≡ bytes_eq line (codes "finished") → result ≡ Err why
    → GivesFault why (event_on w so_far (event_of line)) → Gives (λ told. told) result whole
left_fault tree line left lines w so_far whole result why is here other given fault =
    subst (λ result. Gives (λ told. told) result whole) (sym given)
    (gives_fault tree (replayed tree lines) w so_far why (event_on w so_far (event_of line)) whole
    (is ∙ ap (λ left. replayed tree left w so_far) here ∙ line_event tree line lines w so_far (sym other)) fault)

pub left_event : (tree : Tree) (line : List ℕ) (left lines : List (List ℕ)) (w new : World) (so_far more : Replayed) (whole : Result Replayed ReplayFault)
    → whole ≡ replayed tree left w so_far → left ≡ line ∷ lines → false ≡ bytes_eq line (codes "finished") → Taken tree w so_far line new
    → more ≡ with_event so_far (gauge_of new) → whole ≡ replayed tree lines new more
left_event tree line left lines w new so_far more whole is here other taken counted =
    is ∙ ap (λ left. replayed tree left w so_far) here ∙ line_event tree line lines w so_far (sym other) ∙ taken (replayed tree lines) ∙ ap (replayed tree lines new) (sym counted)

pub left_over : (tree : Tree) (left : List (List ℕ)) (w : World) (so_far : Replayed) (whole : Result Replayed ReplayFault) → whole ≡ replayed tree left w so_far → left ≡ [] → whole ≡ Err fault.NotFinished
left_over tree left w so_far whole is over = is ∙ ap (λ left. replayed tree left w so_far) over ∙ lines_over tree w so_far

-- The same from a world that so many events led to.
record IsRest (tree : Tree) (start : World) (so_far : Replayed) (lines : List (List ℕ)) (told : Replayed) : Type 0 where
  events : List Event
  numbers : AllByRecursion IsEvent events
  end : World
  run : Run tree start events end
  finished : IsFinished end
  rest : List (List ℕ)
  text : lines ≡ map event_line events ++ codes "finished" ∷ rest
  count : told.events ≡ so_far.events + length events
  most : told.most ≡ greatest tree start so_far.most events

finished_world : (w : World) → is_finished w ≡ true → IsFinished w
finished_world w is = grind (arith, nat_tests, is)

is_of_finished : (w : World) → IsFinished w → is_finished w ≡ true
is_of_finished w is = grind (arith, nat_tests, is)

-- where the line `finished` is told well
finish_told : (w : World) (so_far told : Replayed) (b : Bool) → is_finished w ≡ b → cond b (Ok so_far) (Err fault.NotFinished) ≡ Ok told
    → (is_finished w ≡ true) × (so_far ≡ told)
finish_told w so_far told true finished is = (finished, search (rules, is))
finish_told w so_far told false other is = search (rules, is)

rest_finished : (tree : Tree) (line : List ℕ) (lines : List (List ℕ)) (start : World) (so_far told : Replayed) → bytes_eq line (codes "finished") ≡ true
    → finish start so_far ≡ Ok told → IsRest tree start so_far (line ∷ lines) told
rest_finished tree line lines start so_far told says is =
    let end = finish_told start so_far told (is_finished start) refl is in
    let said : line ≡ codes "finished" = search (rules, bytes_eq-Decides line (codes "finished"), says) in
    record {
      events = [];
      numbers = tt;
      end = start;
      run = refl;
      finished = finished_world start end.0;
      rest = lines;
      text = ap (λ line. line ∷ lines) said;
      count = omega (arith, ap (λ told. told.events) end.1);
      most = sym (ap (λ told. told.most) end.1);
    }

-- what an event leaves, if what follows is told
event_told : (tree : Tree) (rest : World → Replayed → Result Replayed ReplayFault) (start : World) (so_far told : Replayed) (event : Option Event)
    → after tree rest start so_far (event_on start so_far event) ≡ Ok told
    → (e : Event) × ((event ≡ Some e) × (guard_of start e ≡ None) × (rest (happens tree start e) (with_event so_far (gauge_of (happens tree start e))) ≡ Ok told))
event_told tree rest start so_far told None is = search (rules, is)
event_told tree rest start so_far told (Some e) is = let holds = by (guard_of start e) refl is in (e, (refl, holds.0, holds.1))
  where
    by : (g : Option Guard) → guard_of start e ≡ g → after tree rest start so_far (enabled_on start so_far g e) ≡ Ok told
        → (guard_of start e ≡ None) × (rest (happens tree start e) (with_event so_far (gauge_of (happens tree start e))) ≡ Ok told)
    by None enabled is = (enabled, is)
    by (Some guard) fails is = search (rules, is)

rest_event : (tree : Tree) (line : List ℕ) (lines : List (List ℕ)) (start : World) (so_far told : Replayed) (e : Event) → event_of line ≡ Some e
    → guard_of start e ≡ None → IsRest tree (happens tree start e) (with_event so_far (gauge_of (happens tree start e))) lines told
    → IsRest tree start so_far (line ∷ lines) told
rest_event tree line lines start so_far told e said enabled rest =
    let is_line = line_of_said line e said in
    let more : length (e ∷ rest.events) ≡ length rest.events + 1 = omega arith in
    record {
      events = e ∷ rest.events;
      numbers = (is_line.0, rest.numbers);
      end = rest.end;
      run = (happens tree start e, (record { enabled = enabled; change = refl }, rest.run));
      finished = rest.finished;
      rest = rest.rest;
      text = ap (λ line. line ∷ lines) is_line.1 ∙ ap (λ lines. event_line e ∷ lines) rest.text;
      count = omega (arith, more, rest.count);
      most = rest.most;
    }

rest_of : (tree : Tree) (lines : List (List ℕ)) (start : World) (so_far told : Replayed) → replayed tree lines start so_far ≡ Ok told → IsRest tree start so_far lines told
rest_of tree [] start so_far told is = let over = sym (lines_over tree start so_far) ∙ is in search (rules, over)
rest_of tree (line ∷ lines) start so_far told is = by (bytes_eq line (codes "finished")) refl (λ w more. rest_of tree lines w more told)
  where
    by : (b : Bool) → bytes_eq line (codes "finished") ≡ b → ((w : World) (more : Replayed) → replayed tree lines w more ≡ Ok told → IsRest tree w more lines told)
        → IsRest tree start so_far (line ∷ lines) told
    by true says later = rest_finished tree line lines start so_far told says (sym (line_finished tree line lines start so_far says) ∙ is)
    by false other later =
        let told_so = event_told tree (replayed tree lines) start so_far told (event_of line) (sym (line_event tree line lines start so_far other) ∙ is) in
        rest_event tree line lines start so_far told told_so.0 told_so.1.0 told_so.1.1 (later (happens tree start told_so.0) _ told_so.1.2)

-- no event's line says that the run is finished
not_finished : (e : Event) → bytes_eq (event_line e) (codes "finished") ≡ false
not_finished (Claim w) = refl
not_finished (Retire w) = refl
not_finished (Advance w) = refl
not_finished (Descend w) = refl
not_finished (Append w) = refl
not_finished (Charge w) = refl
not_finished (Fetch w) = refl
not_finished (Post w stage to) = refl
not_finished (Push w) = refl
not_finished (Pop w stage) = refl
not_finished (Pick w) = refl
not_finished (Restore w) = refl
not_finished (Discharge w) = refl
not_finished (Mark w a b) = refl
not_finished (Close w) = refl

told_of : (tree : Tree) (events : List Event) (start end : World) (so_far told : Replayed) (rest : List (List ℕ)) → AllByRecursion IsEvent events
    → Run tree start events end → IsFinished end → told.events ≡ so_far.events + length events → told.most ≡ greatest tree start so_far.most events
    → replayed tree (map event_line events ++ codes "finished" ∷ rest) start so_far ≡ Ok told
told_of tree [] start end so_far told rest numbers run finished count most =
    let here : is_finished start ≡ true = ap is_finished (sym run) ∙ is_of_finished end finished in
    let same : so_far ≡ told = ap (λ n. record { events = n; most = so_far.most }) (omega (arith, count)) ∙ ap (λ most. record { events = told.events; most = most }) (sym most) in
    line_finished tree (codes "finished") rest start so_far refl ∙ ap (λ b. cond b (Ok so_far) (Err fault.NotFinished)) here ∙ ap (λ told. Ok told) same
told_of tree (e ∷ events) start end so_far told rest numbers run finished count most =
    let lines = map event_line events ++ codes "finished" ∷ rest in
    let w = happens tree start e in
    let more : length (e ∷ events) ≡ length events + 1 = omega arith in
    let onward : Run tree w events end = subst (λ w. Run tree w events end) run.1.0.change run.1.1 in
    line_event tree (event_line e) lines start so_far (not_finished e)
    ∙ ap (λ event. after tree (replayed tree lines) start so_far (event_on start so_far event)) (line_said e numbers.0)
    ∙ ap (λ guard. after tree (replayed tree lines) start so_far (enabled_on start so_far guard e)) run.1.0.enabled
    ∙ told_of tree events w end (with_event so_far (gauge_of w)) told rest numbers.1 onward finished (omega (arith, more, count)) most

pub replays_are_runs : ReplaysAreRuns
replays_are_runs tree start lines told = (
  (λ is.
      let rest = rest_of tree lines start (begun start) told is in
      record {
        events = rest.events;
        numbers = rest.numbers;
        end = rest.end;
        run = rest.run;
        finished = rest.finished;
        rest = rest.rest;
        text = rest.text;
        count = omega (arith, rest.count);
        most = rest.most;
      }),
  (λ is.
      ap (λ lines. replayed tree lines start (begun start)) is.text
      ∙ told_of tree is.events start is.end (begun start) told is.rest is.numbers is.run is.finished (omega (arith, is.count)) is.most),
)
