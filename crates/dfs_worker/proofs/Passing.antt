-- Answers that are made in one go are advances, one after the other.
use Rattle.std.proofs.Common.{◌≡◌, ℕ, ◌+◌, ◌<◌, List, [], ◌∷◌, length, get_or, take, reverse, Option, Some, None, Result, Ok, Err, refl, sym, ap, subst, ◌∙◌, arith, zero, suc}
use Rattle.std.specs.Prelude.{slice_set, IfOk}
use Rattle.adfs_base.specs.declared.no_memory.NoMemory as base
use Rattle.match_context.specs.declared.context.Context.{Context}
use Rattle.match_context.specs.declared.frame.Frame.{Frame}
use Rattle.match_context.specs.declared.expand.Found.{Found}
use Rattle.match_context.specs.declared.expand.Found.TheVariants as found
use Rattle.match_context.specs.declared.expand.Next.{Next}
use Rattle.match_context.specs.declared.expand.Next.TheVariants.{Child, Row, Skip, End}
use Rattle.match_context.specs.Passes.{Passes, found_of, with_child}
use Rattle.match_context.specs.Tree.{Tree, IsTree, Item, Below, Leaf, Pass, AreItems, answer, after}
use Rattle.dfs_worker.specs.declared.event.Event.TheVariants as event
use Rattle.dfs_worker.specs.Guards.{own_guard}
use Rattle.dfs_worker.specs.Own.{ended, stepped, onto, answer_at, frames_after, rows_after, rows_with, advanced}
use Rattle.dfs_worker.specs.Passing.{Passed, TopBelow, TopPassed, Advances}
use Rattle.dfs_worker.specs.State.{State}
use Rattle.dfs_worker.proofs.Tops.{reverse-top, reverse-set_top}

-- ---- one frame
child-rest : (next : Next) (frame : Frame) → (with_child next frame).rest ≡ frame.rest
child-rest (Child context to) frame = refl
child-rest (Row context) frame = refl
child-rest Skip frame = refl
child-rest End frame = refl

-- what a frame goes on with stays as it was
pub passes-rest : (tree : Tree) (machine passed : ℕ) (old new : Frame) (what : Found) → Passes tree machine old passed what new → new.rest ≡ old.rest
passes-rest tree machine zero old new what h =
    ap (λ (f : Frame). f.rest) h.1 ∙ child-rest (answer (tree.ahead machine old.stage old.context old.place)) (after tree machine old)
passes-rest tree machine (suc passed) old new what h = passes-rest tree machine passed (after tree machine old) new what h.1

stays : (tree : Tree) (machine : ℕ) (frame new : Frame) (next : Next) (what : Found) → what ≡ found_of next → new ≡ with_child next frame → (what ≡ found.End → ⊥) →
    stepped tree machine frame next ≡ Some new
stays tree machine frame new (Child context to) what e is goes = ap Some (sym is)
stays tree machine frame new (Row context) what e is goes = ap Some (sym is)
stays tree machine frame new Skip what e is goes = ap Some (sym is)
stays tree machine frame new End what e is goes = absurd (goes e)

ends : (tree : Tree) (machine : ℕ) (frame new : Frame) (next : Next) (what : Found) (kept : Option Frame) → what ≡ found_of next → new ≡ with_child next frame → what ≡ found.End →
    ended tree machine new new.rest ≡ kept → stepped tree machine frame next ≡ kept
ends tree machine frame new (Child context to) what kept e is end on = cc
ends tree machine frame new (Row context) what kept e is end on = cc
ends tree machine frame new Skip what kept e is end on = cc
ends tree machine frame new End what kept e is end on = subst (λ (f : Frame). ended tree machine f f.rest ≡ kept) is on

pub passes-on : (tree : Tree) (machine passed : ℕ) (old new : Frame) (what : Found) → Passes tree machine old passed what new → (what ≡ found.End → ⊥) → Passed tree machine old passed (Some new)
passes-on tree machine zero old new what h goes_on =
    stays tree machine (after tree machine old) new (answer (tree.ahead machine old.stage old.context old.place)) what h.0 h.1 goes_on
passes-on tree machine (suc passed) old new what h goes_on = (h.0, passes-on tree machine passed (after tree machine old) new what h.1 goes_on)

pub passes-end : (tree : Tree) (machine passed : ℕ) (old new : Frame) (what : Found) (kept : Option Frame) → Passes tree machine old passed what new → what ≡ found.End →
    ended tree machine new new.rest ≡ kept → Passed tree machine old passed kept
passes-end tree machine zero old new what kept h end on =
    ends tree machine (after tree machine old) new (answer (tree.ahead machine old.stage old.context old.place)) what kept h.0 h.1 end on
passes-end tree machine (suc passed) old new what kept h end on = (h.0, passes-end tree machine passed (after tree machine old) new what kept h.1 end on)

-- ---- the top
-- before the last stage no answer is a row
no-row : (tree : Tree) (stage : ℕ) (items : List Item) (rows : List Context) → AreItems tree stage items → stage + 1 < tree.stages → rows ≡ rows_with rows (answer items)
no-row tree stage [] rows h low = refl
no-row tree stage (Below context machine ∷ items) rows h low = refl
no-row tree stage (Leaf context ∷ items) rows h low = let last = h.0 in absurd (omega arith)
no-row tree stage (Pass ∷ items) rows h low = refl

pub passed-top : (tree : Tree) (machine passed : ℕ) (frame : Frame) (frames : List Frame) (rows : List Context) (kept : Option Frame) → IsTree tree → frame.stage + 1 < tree.stages →
    Passed tree machine frame passed kept → TopPassed tree machine (frame ∷ frames) rows passed (onto kept frames) rows
passed-top tree machine zero frame frames rows kept law low h = (
  ap (λ o. onto o frames) (sym h),
  no-row tree frame.stage (tree.ahead machine frame.stage frame.context frame.place) rows (law.items machine frame.stage frame.context frame.place) low,
)
passed-top tree machine (suc passed) frame frames rows kept law low h = (h.0, passed-top tree machine passed (after tree machine frame) frames rows kept law low h.1)

-- the frames of a stack, the top last, when answers of the top are made and it stays
pub top-kept : (tree : Tree) (machine passed n : ℕ) (xs olds : List Frame) (frame top d : Frame) (rows : List Context) → IsTree tree → top.stage + 1 < tree.stages → reverse xs ≡ olds → n + 1 ≡ length xs →
    top ≡ get_or xs n d → Passed tree machine top passed (Some frame) → TopPassed tree machine olds rows passed (reverse (slice_set xs n frame)) rows
top-kept tree machine passed n xs olds frame top d rows law low olds_are last top_is h =
    let fronts : top ∷ reverse (take n xs) ≡ olds = ap (λ f. f ∷ reverse (take n xs)) top_is ∙ sym (reverse-top xs n d last) ∙ olds_are in
    let made = passed-top tree machine passed top (reverse (take n xs)) rows (Some frame) law low h in
    subst (λ fs. TopPassed tree machine olds rows passed fs rows) (sym (reverse-set_top xs n frame last))
    (subst (λ fs. TopPassed tree machine fs rows passed (frame ∷ reverse (take n xs)) rows) fronts made)

-- and when it is taken off
pub top-off : (tree : Tree) (machine passed n : ℕ) (xs olds : List Frame) (top d : Frame) (rows : List Context) → IsTree tree → top.stage + 1 < tree.stages → reverse xs ≡ olds → n + 1 ≡ length xs →
    top ≡ get_or xs n d → Passed tree machine top passed None → TopPassed tree machine olds rows passed (reverse (take n xs)) rows
top-off tree machine passed n xs olds top d rows law low olds_are last top_is h =
    let fronts : top ∷ reverse (take n xs) ≡ olds = ap (λ f. f ∷ reverse (take n xs)) top_is ∙ sym (reverse-top xs n d last) ∙ olds_are in
    subst (λ fs. TopPassed tree machine fs rows passed (reverse (take n xs)) rows) fronts (passed-top tree machine passed top (reverse (take n xs)) rows None law low h)

-- ---- the worker
-- an answer of which nothing comes changes the top's context and place alone
skipped-frames : (tree : Tree) (machine : ℕ) (frame : Frame) (frames : List Frame) → answer_at tree machine frame ≡ Skip →
    frames_after tree machine (frame ∷ frames) ≡ after tree machine frame ∷ frames
skipped-frames tree machine frame frames e = ap (λ next. onto (stepped tree machine (after tree machine frame) next) frames) e

skipped-rows : (tree : Tree) (machine : ℕ) (frame : Frame) (frames : List Frame) (rows : List Context) → answer_at tree machine frame ≡ Skip →
    rows_after tree machine rows (frame ∷ frames) ≡ rows
skipped-rows tree machine frame frames rows e = ap (rows_with rows) e

abbrev with_top : State → List Frame → List Context → State
with_top worker frames rows = record worker { stack = frames; rows = rows }

-- a top goes on as well after such an answer
skipped-guard : (tree : Tree) (worker : State) (frame : Frame) (frames : List Frame) → worker.stack ≡ frame ∷ frames → own_guard (event.Advance 0) worker ≡ None →
    (rows : List Context) → own_guard (event.Advance 0) (with_top worker (after tree worker.machine frame ∷ frames) rows) ≡ None
skipped-guard tree worker frame frames e g rows =
    subst (λ fs. own_guard (event.Advance 0) (with_top worker fs rows) ≡ None) e g

record Goes (tree : Tree) (old : State) (passed : ℕ) (frames : List Frame) (rows : List Context) : Type 0 where
  guard : own_guard (event.Advance 0) (advanced tree old) ≡ None
  later : TopPassed tree old.machine (advanced tree old).stack (advanced tree old).rows passed frames rows

-- after an answer of which nothing comes the later ones are made
goes : (tree : Tree) (passed : ℕ) (old : State) (frames : List Frame) (rows : List Context) → own_guard (event.Advance 0) old ≡ None → TopPassed tree old.machine old.stack old.rows (suc passed) frames rows →
    Goes tree old passed frames rows
goes tree passed old frames rows g h = on old.stack refl h
  where
    on : (fs : List Frame) → old.stack ≡ fs → TopPassed tree old.machine fs old.rows (suc passed) frames rows → Goes tree old passed frames rows
    on [] e h = absurd h
    on (top ∷ below) e h =
        let stack : after tree old.machine top ∷ below ≡ frames_after tree old.machine old.stack =
        sym (skipped-frames tree old.machine top below h.0) ∙ ap (frames_after tree old.machine) (sym e) in
        let kept : old.rows ≡ rows_after tree old.machine old.rows old.stack =
        sym (skipped-rows tree old.machine top below old.rows h.0) ∙ ap (rows_after tree old.machine old.rows) (sym e) in
        record {
          guard = subst (λ fs. own_guard (event.Advance 0) (with_top old fs (rows_after tree old.machine old.rows old.stack)) ≡ None) stack (skipped-guard tree old top below e g (rows_after tree old.machine old.rows old.stack));
          later = subst (λ fs. TopPassed tree old.machine fs (rows_after tree old.machine old.rows old.stack) passed frames rows) stack
              (subst (λ rs. TopPassed tree old.machine (after tree old.machine top ∷ below) rs passed frames rows) kept h.1);
        }

last-advance : (tree : Tree) (old new : State) (frames : List Frame) (rows : List Context) → TopPassed tree old.machine old.stack old.rows zero frames rows → new ≡ with_top old frames rows → new ≡ advanced tree old
last-advance tree old new frames rows h is = on old.stack refl h
  where
    on : (fs : List Frame) → old.stack ≡ fs → TopPassed tree old.machine fs old.rows zero frames rows → new ≡ advanced tree old
    on [] e h = absurd h
    on (top ∷ below) e h =
        is ∙ ap (λ fs. with_top old fs rows) (h.0 ∙ ap (frames_after tree old.machine) (sym e))
        ∙ ap (with_top old (frames_after tree old.machine old.stack)) (h.1 ∙ ap (rows_after tree old.machine old.rows) (sym e))

-- The answers of the top are advances of the worker.
pub passed-advances : (tree : Tree) (passed : ℕ) (old new : State) (frames : List Frame) (rows : List Context) → own_guard (event.Advance 0) old ≡ None → TopPassed tree old.machine old.stack old.rows passed frames rows →
    new ≡ with_top old frames rows → Advances tree passed old new
passed-advances tree zero old new frames rows g h is = (g, last-advance tree old new frames rows h is)
passed-advances tree (suc passed) old new frames rows g h is =
    let on = goes tree passed old frames rows g h in
    (g, passed-advances tree passed (advanced tree old) new frames rows on.guard on.later is)

-- ---- what the code reads
pub top-below : (stages n : ℕ) (xs olds : List Frame) (top d : Frame) → reverse xs ≡ olds → n + 1 ≡ length xs → top ≡ get_or xs n d → TopBelow stages olds → top.stage + 1 < stages
top-below stages n xs olds top d olds_are last top_is below =
    let fronts : olds ≡ get_or xs n d ∷ reverse (take n xs) = sym olds_are ∙ reverse-top xs n d last in
    let low = subst (TopBelow stages) fronts below in
    subst (λ (f : Frame). f.stage + 1 < stages) (sym top_is) low

-- the worker whose stack and rows are these
pub if-passed : (tree : Tree) (old inside new : State) (r : Result ℕ base.NoMemory) → inside ≡ old → own_guard (event.Advance 0) old ≡ None →
    IfOk r (λ passed. TopPassed tree inside.machine inside.stack inside.rows passed new.stack new.rows) → new ≡ with_top inside new.stack new.rows → IfOk r (λ passed. Advances tree passed old new)
if-passed tree old inside new (Ok passed) same g h is =
    passed-advances tree passed old new new.stack new.rows g (subst (λ (v : State). TopPassed tree v.machine v.stack v.rows passed new.stack new.rows) same h)
    (subst (λ v. new ≡ with_top v new.stack new.rows) same is)
if-passed tree old inside new (Err e) same g h is = tt
