-- What each event asks of its worker, in the order of the tests. What it asks of what is shared comes after these.
use Rattle.std.specs.Prelude.{ℕ, Bool, true, false, not, ◌==◌, nat_le, if◌then◌else◌, List, [], ◌∷◌, Option, Some, None, is_some}
use Rattle.match_context.specs.declared.frame.Frame.{Frame}
use Rattle.dfs_worker.specs.declared.hand.Hand.{Hand}
use Rattle.dfs_worker.specs.declared.hand.Hand.TheVariants.{Free, Charged, Posted, Popped, Emptied}
use Rattle.dfs_worker.specs.declared.event.Event.{Event}
use Rattle.dfs_worker.specs.declared.event.Event.TheVariants as event
use Rattle.dfs_worker.specs.declared.guard.Guard.{Guard}
use Rattle.dfs_worker.specs.declared.guard.Guard.TheVariants as guard
use Rattle.dfs_worker.specs.Slots.{is_open, has_room}
use Rattle.dfs_worker.specs.State.{State, is_over, is_free, next_stage, waiting}

-- a test that must hold, with the guard that fails where it doesn't, and the tests after it
abbrev pub must : Bool → Guard → Option Guard → Option Guard
must test guard later = if test then later else Some guard

abbrev pub has_top : List Frame → Bool
has_top [] = false
has_top (frame ∷ frames) = true

abbrev pub top_over : List Frame → Bool
top_over [] = false
top_over (frame ∷ frames) = is_over frame.rest

-- a test of the waiting child, by its stage and its machine
abbrev pub child_test_by : (ℕ → ℕ → Bool) → Option (ℕ × ℕ) → Bool
child_test_by test None = false
child_test_by test (Some child) = test child.0 child.1

abbrev pub child_test : (ℕ → ℕ → Bool) → List Frame → Bool
child_test test stack = child_test_by test (waiting stack)

abbrev pub waits : List Frame → Bool
waits stack = is_some (waiting stack)

abbrev pub is_charged : Hand → Bool
is_charged Free = false
is_charged (Charged stage to) = true
is_charged (Posted message) = false
is_charged (Popped message) = false
is_charged (Emptied from stage) = false

abbrev pub is_posted : Hand → Bool
is_posted Free = false
is_posted (Charged stage to) = false
is_posted (Posted message) = true
is_posted (Popped message) = false
is_posted (Emptied from stage) = false

abbrev pub is_popped : Hand → Bool
is_popped Free = false
is_popped (Charged stage to) = false
is_popped (Posted message) = false
is_popped (Popped message) = true
is_popped (Emptied from stage) = false

abbrev pub is_emptied : Hand → Bool
is_emptied Free = false
is_emptied (Charged stage to) = false
is_emptied (Posted message) = false
is_emptied (Popped message) = false
is_emptied (Emptied from stage) = true

-- a free hand, and these
abbrev pub start_guard : State → Option Guard
start_guard worker =
    must (is_free worker.hand) guard.Hand (must worker.enrolled guard.Enrolled (must (not (has_top worker.stack)) guard.Stack None))

abbrev pub top_guard : State → Option Guard → Option Guard
top_guard worker later = must (is_free worker.hand) guard.Hand (must (has_top worker.stack) guard.Stack later)

abbrev pub child_guard : State → Option Guard → Option Guard
child_guard worker later = top_guard worker (must (waits worker.stack) guard.Child later)

abbrev pub own_guard : Event → State → Option Guard
own_guard (event.Claim w) worker = start_guard worker
own_guard (event.Retire w) worker = start_guard worker
own_guard (event.Advance w) worker =
    top_guard worker (must (not (waits worker.stack)) guard.Child (must (not (top_over worker.stack)) guard.Over None))
own_guard (event.Descend w) worker =
    child_guard worker (must (child_test (λ stage to. to == worker.machine) worker.stack) guard.Local None)
own_guard (event.Append w) worker =
    child_guard worker (must (child_test (has_room worker.slots) worker.stack) guard.Room None)
own_guard (event.Charge w) worker =
    child_guard worker (must (child_test (λ stage to. not (is_open worker.slots stage to)) worker.stack) guard.Open None)
own_guard (event.Fetch w) worker = must (is_charged worker.hand) guard.Hand None
own_guard (event.Post w stage to) worker =
    must (is_free worker.hand) guard.Hand (must (is_open worker.slots stage to) guard.Open None)
own_guard (event.Push w) worker = must (is_posted worker.hand) guard.Hand None
own_guard (event.Pop w stage) worker =
    must (is_free worker.hand) guard.Hand (must (nat_le (next_stage worker.stack) stage) guard.Above None)
own_guard (event.Pick w) worker = must (is_popped worker.hand) guard.Hand None
own_guard (event.Restore w) worker = top_guard worker (must (top_over worker.stack) guard.Over None)
own_guard (event.Discharge w) worker = must (is_emptied worker.hand) guard.Hand None
own_guard (event.Mark w a b) worker = must (is_free worker.hand) guard.Hand None
own_guard (event.Close w) worker = must (is_free worker.hand) guard.Hand None
