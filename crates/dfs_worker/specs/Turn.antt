-- What a turn tries, in which order, and what it answers.
use Rattle.std.specs.Prelude.{◌≤◌, ◌≡◌, ℕ, ◌+◌, ◌-◌, ◌%◌, ◌^◌, ◌<◌, ◌/◌, ◌⊎◌, Bool, true, false, not, ◌&&◌, ◌==◌, min, max, if◌then◌else◌, List, [], ◌∷◌, ◌++◌, length, slice_get, take, drop, Option, Some, None, zero, suc}
use Rattle.adfs_base.specs.Shape.{Extents}
use Rattle.adfs_base.specs.declared.step_answers.Word.{Word}
use Rattle.adfs_base.specs.declared.step_answers.Word.TheVariants.{Enrolled, Used}
use Rattle.bfs_budget.specs.Tries.{actions_of}
use Rattle.bfs_budget.specs.declared.policy.Look.{Look}
use Rattle.bfs_budget.specs.declared.tries.Attempt.{Attempt}
use Rattle.bfs_budget.specs.declared.tries.Attempt.TheVariants as attempt
use Rattle.bfs_budget.specs.declared.tries.HandState.{HandState}
use Rattle.fabric.specs.Account.{Holding, Call, ToClaim, ToRetire, ToCharge, ToFetch, ToPost, ToPush, ToPop, ToPick, ToRestore, ToDischarge, ToMark, ToClose, ToLook, Given, Nothing, Roots, Taken, Came, Seen}
use Rattle.fabric.specs.Calls.{empty_buffer}
use Rattle.match_context.specs.declared.frame.Frame.{Frame}
use Rattle.match_context.specs.declared.frame.Rest.{Rest}
use Rattle.match_context.specs.declared.frame.Rest.TheVariants as rest
use Rattle.match_context.specs.Tree.{Tree}
use Rattle.stage_termination.specs.Marks.{is_marked, is_ready, next_word_of}
use Rattle.dfs_worker.specs.declared.event.Event.{Event}
use Rattle.dfs_worker.specs.declared.event.Event.TheVariants as event
use Rattle.dfs_worker.specs.declared.hand.Hand.{Hand}
use Rattle.dfs_worker.specs.declared.hand.Hand.TheVariants.{Free, Charged, Posted, Popped, Emptied}
use Rattle.dfs_worker.specs.declared.turn.Turn.{Turn}
use Rattle.dfs_worker.specs.declared.turn.Turn.TheVariants.{Did, Idle, NoMemory}
use Rattle.dfs_worker.specs.Census.{Census, count, one}
use Rattle.dfs_worker.specs.Guards.{own_guard, top_over, child_test}
use Rattle.dfs_worker.specs.Own.{claimed, retired, advanced, AddsRow, descended, appended, charged, fetched, posted, freed, popped, picked, restored, marked, moved}
use Rattle.dfs_worker.specs.Slots.{Slots, is_open, has_room}
use Rattle.dfs_worker.specs.Sound.{IsWorker, WithinRoots, TreeFits}
use Rattle.dfs_worker.specs.State.{State, next_stage, waiting}

-- ---- the event's call, and the worker's part with what the call gave
abbrev pub charge_call : Option (ℕ × ℕ) → Option Call
charge_call None = None
charge_call (Some child) = Some (ToCharge child.0 child.1)

abbrev pub push_call : Hand → Option Call
push_call Free = None
push_call (Charged stage to) = None
push_call (Posted message) = Some (ToPush message)
push_call (Popped message) = None
push_call (Emptied from stage) = None

abbrev pub pick_call : Hand → Option Call
pick_call Free = None
pick_call (Charged stage to) = None
pick_call (Posted message) = None
pick_call (Popped message) = Some (ToPick message.from message.stage)
pick_call (Emptied from stage) = None

abbrev pub discharge_call : Hand → Option Call
discharge_call Free = None
discharge_call (Charged stage to) = None
discharge_call (Posted message) = None
discharge_call (Popped message) = None
discharge_call (Emptied from stage) = Some (ToDischarge from stage)

abbrev pub restore_rest : Rest → Option Call
restore_rest rest.None = None
restore_rest (rest.Roots next end) = None
restore_rest (rest.Items message next over) = Some (ToRestore (empty_buffer message.items.home message.items.size))

abbrev pub restore_call : List Frame → Option Call
restore_call [] = None
restore_call (frame ∷ frames) = restore_rest frame.rest

abbrev pub call_of : Event → State → Option Call
call_of (event.Claim w) worker = Some ToClaim
call_of (event.Retire w) worker = Some ToRetire
call_of (event.Advance w) worker = None
call_of (event.Descend w) worker = None
call_of (event.Append w) worker = None
call_of (event.Charge w) worker = charge_call (waiting worker.stack)
call_of (event.Fetch w) worker = Some ToFetch
call_of (event.Post w stage to) worker = Some (ToPost stage to)
call_of (event.Push w) worker = push_call worker.hand
call_of (event.Pop w stage) worker = Some (ToPop stage)
call_of (event.Pick w) worker = pick_call worker.hand
call_of (event.Restore w) worker = restore_call worker.stack
call_of (event.Discharge w) worker = discharge_call worker.hand
call_of (event.Mark w a b) worker = Some ToLook
call_of (event.Close w) worker = Some ToClose

abbrev pub claimed_as : Tree → Given → State → State
claimed_as tree Nothing worker = worker
claimed_as tree (Roots first end) worker = claimed tree first end worker
claimed_as tree (Taken buffer) worker = worker
claimed_as tree (Came message) worker = worker
claimed_as tree (Seen closed) worker = worker

abbrev pub fetched_as : Given → State → State
fetched_as Nothing worker = worker
fetched_as (Roots first end) worker = worker
fetched_as (Taken buffer) worker = fetched buffer worker
fetched_as (Came message) worker = worker
fetched_as (Seen closed) worker = worker

abbrev pub popped_as : Given → State → State
popped_as Nothing worker = worker
popped_as (Roots first end) worker = worker
popped_as (Taken buffer) worker = worker
popped_as (Came message) worker = popped message worker
popped_as (Seen closed) worker = worker

abbrev pub own_part : Tree → Event → Given → State → State
own_part tree (event.Claim w) given worker = claimed_as tree given worker
own_part tree (event.Retire w) given worker = retired worker
own_part tree (event.Advance w) given worker = advanced tree worker
own_part tree (event.Descend w) given worker = descended worker
own_part tree (event.Append w) given worker = appended worker
own_part tree (event.Charge w) given worker = charged worker
own_part tree (event.Fetch w) given worker = fetched_as given worker
own_part tree (event.Post w stage to) given worker = posted stage to worker
own_part tree (event.Push w) given worker = freed worker
own_part tree (event.Pop w stage) given worker = popped_as given worker
own_part tree (event.Pick w) given worker = picked worker
own_part tree (event.Restore w) given worker = restored worker
own_part tree (event.Discharge w) given worker = freed worker
own_part tree (event.Mark w a b) given worker = worker
own_part tree (event.Close w) given worker = worker

-- ---- tries
-- A step goes by its own guards and its call. `PostOther` is the post of the first other open buffer. A start is a
-- claim, and where that finds no root it is the end of all claims. Before a word is marked or a stage is closed the
-- worker looks how many stages are closed.
pub data Try : Type 0 where
  Step : (event : Event) → Try
  PostOther : Try
  Start : Try
  NextMark : Try
  NextClose : Try

abbrev pub hand_step : ℕ → Hand → List Try
hand_step w Free = []
hand_step w (Charged stage to) = Step (event.Fetch w) ∷ []
hand_step w (Posted message) = Step (event.Push w) ∷ []
hand_step w (Popped message) = Step (event.Pick w) ∷ []
hand_step w (Emptied from stage) = Step (event.Discharge w) ∷ []

abbrev pub own_post : ℕ → Option (ℕ × ℕ) → List Try
own_post w None = []
own_post w (Some child) = Step (event.Post w child.0 child.1) ∷ []

-- the pops of so many stages from the lowest one on, the highest first
abbrev pub pops_from : ℕ → ℕ → ℕ → List Try
pops_from w lowest zero = []
pops_from w lowest (suc left) = Step (event.Pop w (lowest + left)) ∷ pops_from w lowest left

-- the lowest stage of which a message may come in
abbrev pub lowest_pop : List Frame → ℕ
lowest_pop stack = max 1 (next_stage stack)

abbrev pub tries_of : ℕ → ℕ → List Frame → Hand → Attempt → List Try
tries_of w stages stack hand attempt.Hand = hand_step w hand
tries_of w stages stack hand attempt.Restore = Step (event.Restore w) ∷ []
tries_of w stages stack hand attempt.Advance = Step (event.Advance w) ∷ []
tries_of w stages stack hand attempt.PostOwn = own_post w (waiting stack)
tries_of w stages stack hand attempt.Append = Step (event.Append w) ∷ []
tries_of w stages stack hand attempt.Charge = Step (event.Charge w) ∷ []
tries_of w stages stack hand attempt.Descend = Step (event.Descend w) ∷ []
tries_of w stages stack hand attempt.PostOthers = PostOther ∷ []
tries_of w stages stack hand attempt.Pop = pops_from w (lowest_pop stack) (stages - lowest_pop stack)
tries_of w stages stack hand attempt.Claim = Start ∷ []
tries_of w stages stack hand attempt.Retire = []
tries_of w stages stack hand attempt.Mark = NextMark ∷ []
tries_of w stages stack hand attempt.Close = NextClose ∷ []

abbrev pub all_tries : ℕ → ℕ → List Frame → Hand → List Attempt → List Try
all_tries w stages stack hand [] = []
all_tries w stages stack hand (attempt ∷ attempts) = tries_of w stages stack hand attempt ++ all_tries w stages stack hand attempts

-- ---- where a turn begins
abbrev pub hand_number : Hand → ℕ
hand_number Free = 0
hand_number (Charged stage to) = 1
hand_number (Posted message) = 2
hand_number (Popped message) = 3
hand_number (Emptied from stage) = 4

abbrev pub top_stage : List Frame → Option ℕ
top_stage [] = None
top_stage (frame ∷ frames) = Some frame.stage

abbrev pub waiting_state : ℕ → Option (ℕ × ℕ) → Option (ℕ × Bool)
waiting_state machine None = None
waiting_state machine (Some child) = Some (child.1, child.1 == machine)

abbrev pub is_full : Slots → ℕ → ℕ → Bool
is_full slots stage to = is_open slots stage to && not (has_room slots stage to)

abbrev pub hand_state_of : State → HandState
hand_state_of worker =
    record {
      hand = hand_number worker.hand;
      top = top_stage worker.stack;
      waiting = waiting_state worker.machine (waiting worker.stack);
      over = top_over worker.stack;
      open_room = child_test (has_room worker.slots) worker.stack;
      open_full = child_test (is_full worker.slots) worker.stack;
      enrolled = worker.enrolled;
    }

abbrev pub stage_or : Option ℕ → ℕ
stage_or None = 0
stage_or (Some stage) = stage

abbrev pub look_of : State → Look
look_of worker =
    record {
      stage = stage_or (top_stage worker.stack);
      local = child_test (λ stage to. to == worker.machine) worker.stack;
      count = length (actions_of (hand_state_of worker));
    }

abbrev pub is_retire : Option Attempt → Bool
is_retire None = false
is_retire (Some attempt.Hand) = false
is_retire (Some attempt.Restore) = false
is_retire (Some attempt.Advance) = false
is_retire (Some attempt.PostOwn) = false
is_retire (Some attempt.Append) = false
is_retire (Some attempt.Charge) = false
is_retire (Some attempt.Descend) = false
is_retire (Some attempt.PostOthers) = false
is_retire (Some attempt.Pop) = false
is_retire (Some attempt.Claim) = false
is_retire (Some attempt.Retire) = true
is_retire (Some attempt.Mark) = false
is_retire (Some attempt.Close) = false

-- The answer that names retire starts at the claim before it.
abbrev pub start_at : List Attempt → ℕ → ℕ
start_at attempts at = if is_retire (slice_get attempts at) then at - 1 else at

abbrev pub begun_at : ℕ → List Attempt → List Attempt
begun_at at attempts = drop at attempts ++ take at attempts

-- the tries of a turn whose policy answers this
abbrev pub turn_tries : State → ℕ → List Try
turn_tries worker answer =
    let attempts = actions_of (hand_state_of worker) in
    all_tries worker.number worker.shape.stages worker.stack worker.hand (begun_at (start_at attempts (answer % length attempts)) attempts)

-- ---- a try that is made
abbrev pub Made : {F : Type 0} → (F → ℕ → Call → Given → F → Type 0) → F → ℕ → Option Call → Given → F → Type 0
Made done f w None given f' = f' ≡ f
Made done f w (Some call) given f' = done f w call given f'

-- the event made is this, and the worker made its part
pub record DidStep {F : Type 0} (done : F → ℕ → Call → Given → F → Type 0) (tree : Tree) (v : State) (f : F) (e made : Event) (v' : State) (f' : F) : Type 0 where
  pub same : made ≡ e
  pub enabled : own_guard e v ≡ None
  pub given : Given
  pub own : v' ≡ own_part tree e given v
  pub shared : Made done f v.number (call_of e v) given f'

-- the first open buffer but the waiting child's: of the highest stage, and there of the lowest machine
abbrev pub is_other : Option (ℕ × ℕ) → ℕ → ℕ → Bool
is_other None stage to = true
is_other (Some child) stage to = not ((child.0 == stage) && (child.1 == to))

abbrev pub is_postable : State → ℕ → ℕ → Bool
is_postable v stage to = is_other (waiting v.stack) stage to && is_open v.slots stage to

pub record IsFirstOther (v : State) (stage to : ℕ) : Type 0 where
  pub here : is_postable v stage to ≡ true
  pub higher : (k n : ℕ) → stage < k → k < v.shape.stages → n < v.shape.machines → is_postable v k n ≡ false
  pub lower : (n : ℕ) → n < to → is_postable v stage n ≡ false

-- the first claim of a worker, or its last
abbrev pub DidStart : {F : Type 0} → (F → ℕ → Call → Given → F → Type 0) → (F → ℕ → Call → F → Type 0) → Tree → State → F → Event → State → F → Type 0
DidStart {F} done excused tree v f made v' f' =
    (own_guard (event.Claim v.number) v ≡ None)
    × (((first : ℕ) × ((end : ℕ) × ((made ≡ event.Claim v.number) × (v' ≡ claimed tree first end v) × done f v.number ToClaim (Roots first end) f')))
    ⊎ ((g : F) × ((made ≡ event.Retire v.number) × (v' ≡ retired v) × excused f v.number ToClaim g × done g v.number ToRetire Nothing f')))

abbrev pub mark_event : ℕ → Word → Event
mark_event w (Enrolled machine) = event.Mark w machine 0
mark_event w (Used from stage to) = event.Mark w from to

-- what was seen of the closed stages, and a call after that
pub record DidMark {F : Type 0} (done : F → ℕ → Call → Given → F → Type 0) (v : State) (f : F) (made : Event) (v' : State) (f' : F) : Type 0 where
  pub closed : ℕ
  pub between : F
  pub looked : done f v.number ToLook (Seen closed) between
  pub word : Word
  pub next : next_word_of (moved closed v).marks ≡ Some word
  pub same : made ≡ mark_event v.number word
  pub own : v' ≡ marked closed word v
  pub shared : done between v.number (ToMark word) Nothing f'

pub record DidClose {F : Type 0} (done : F → ℕ → Call → Given → F → Type 0) (v : State) (f : F) (made : Event) (v' : State) (f' : F) : Type 0 where
  pub closed : ℕ
  pub between : F
  pub looked : done f v.number ToLook (Seen closed) between
  pub ready : is_ready (moved closed v).marks ≡ true
  pub same : made ≡ event.Close v.number
  pub own : v' ≡ moved closed v
  pub shared : done between v.number ToClose Nothing f'

abbrev pub DidPost : {F : Type 0} → (F → ℕ → Call → Given → F → Type 0) → State → F → Event → State → F → Type 0
DidPost done v f made v' f' =
    (stage : ℕ) × ((to : ℕ) × ((made ≡ event.Post v.number stage to) × IsFirstOther v stage to × (v' ≡ posted stage to v) × done f v.number (ToPost stage to) Nothing f'))

abbrev pub DidEvent : {F : Type 0} → (F → ℕ → Call → Given → F → Type 0) → (F → ℕ → Call → F → Type 0) → Tree → State → F → Try → Event → State → F → Type 0
DidEvent done excused tree v f (Step e) made v' f' = DidStep done tree v f e made v' f'
DidEvent done excused tree v f PostOther made v' f' = DidPost done v f made v' f'
DidEvent done excused tree v f Start made v' f' = DidStart done excused tree v f made v' f'
DidEvent done excused tree v f NextMark made v' f' = DidMark done v f made v' f'
DidEvent done excused tree v f NextClose made v' f' = DidClose done v f made v' f'

-- only an answer of the top may find no memory, and only for a row
abbrev pub OutOfMemory : {F : Type 0} → Tree → State → F → Try → State → F → Type 0
OutOfMemory tree v f (Step e) v' f' =
    (e ≡ event.Advance v.number) × (own_guard e v ≡ None) × AddsRow tree v.machine v.stack × (v' ≡ v) × (f' ≡ f)
OutOfMemory tree v f PostOther v' f' = ⊥
OutOfMemory tree v f Start v' f' = ⊥
OutOfMemory tree v f NextMark v' f' = ⊥
OutOfMemory tree v f NextClose v' f' = ⊥

abbrev pub EndsTurn : {F : Type 0} → (F → ℕ → Call → Given → F → Type 0) → (F → ℕ → Call → F → Type 0) → Tree → State → F → Try → Turn → State → F → Type 0
EndsTurn done excused tree v f tried (Did made) v' f' = DidEvent done excused tree v f tried made v' f'
EndsTurn done excused tree v f tried Idle v' f' = ⊥
EndsTurn done excused tree v f tried NoMemory v' f' = OutOfMemory tree v f tried v' f'

-- ---- a try that is passed
-- a buffer that a pool handed back is empty
abbrev pub emptied_rest : Rest → Rest
emptied_rest rest.None = rest.None
emptied_rest (rest.Roots next end) = rest.Roots next end
emptied_rest (rest.Items message next over) =
    rest.Items (record message { items = empty_buffer message.items.home message.items.size }) next over

abbrev pub emptied_top : List Frame → List Frame
emptied_top [] = []
emptied_top (frame ∷ frames) = record frame { rest = emptied_rest frame.rest } ∷ frames

abbrev pub left_by : Event → State → State
left_by (event.Restore w) v = record v { stack = emptied_top v.stack }
left_by e v = v

abbrev pub MissedCall : {F : Type 0} → (F → ℕ → Call → F → Type 0) → F → ℕ → Option Call → F → Type 0
MissedCall excused f w None f' = ⊥
MissedCall excused f w (Some call) f' = excused f w call f'

-- the worker's own guards bar the step, or its call wasn't ready
abbrev pub PassedStep : {F : Type 0} → (F → ℕ → Call → F → Type 0) → State → F → Event → State → F → Type 0
PassedStep excused v f e v' f' =
    ((own_guard e v ≡ None → ⊥) × (v' ≡ v) × (f' ≡ f))
    ⊎ ((own_guard e v ≡ None) × (v' ≡ left_by e v) × MissedCall excused f v.number (call_of e v) f')

abbrev pub NoOther : State → Type 0
NoOther v = (k n : ℕ) → 0 < k → k < v.shape.stages → n < v.shape.machines → is_postable v k n ≡ false

abbrev pub PassedStart : {F : Type 0} → (F → ℕ → Call → F → Type 0) → State → F → F → Type 0
PassedStart excused v f f' =
    ((own_guard (event.Claim v.number) v ≡ None → ⊥) × (f' ≡ f))
    ⊎ ((own_guard (event.Claim v.number) v ≡ None) × excused f v.number ToClaim f' × excused f v.number ToRetire f')

abbrev pub MissedMark : {F : Type 0} → (F → ℕ → Call → F → Type 0) → F → ℕ → Option Word → F → Type 0
MissedMark excused f w None f' = f' ≡ f
MissedMark excused f w (Some word) f' = excused f w (ToMark word) f'

abbrev pub MissedClose : {F : Type 0} → (F → ℕ → Call → F → Type 0) → F → ℕ → Bool → F → Type 0
MissedClose excused f w false f' = f' ≡ f
MissedClose excused f w true f' = excused f w ToClose f'

abbrev pub PassedTry : {F : Type 0} → (F → ℕ → Call → Given → F → Type 0) → (F → ℕ → Call → F → Type 0) → State → F → Try → State → F → Type 0
PassedTry done excused v f (Step e) v' f' = PassedStep excused v f e v' f'
PassedTry done excused v f PostOther v' f' = NoOther v × (v' ≡ v) × (f' ≡ f)
PassedTry done excused v f Start v' f' = PassedStart excused v f f' × (v' ≡ v)
PassedTry {F} done excused v f NextMark v' f' =
    (closed : ℕ) × ((g : F) × (done f v.number ToLook (Seen closed) g × (v' ≡ moved closed v) × MissedMark excused g v.number (next_word_of v'.marks) f'))
PassedTry {F} done excused v f NextClose v' f' =
    (closed : ℕ) × ((g : F) × (done f v.number ToLook (Seen closed) g × (v' ≡ moved closed v) × MissedClose excused g v.number (is_ready v'.marks) f'))

-- ---- a turn
-- The first of these tries that is made ends it, and those before were passed one after the other.
abbrev pub IsTurn : {F : Type 0} → (F → ℕ → Call → Given → F → Type 0) → (F → ℕ → Call → F → Type 0) → Tree → State → F → List Try → Turn → State → F → Type 0
IsTurn done excused tree v f [] turn v' f' = (turn ≡ Idle) × (v' ≡ v) × (f' ≡ f)
IsTurn {F} done excused tree v f (tried ∷ tries) turn v' f' =
    EndsTurn done excused tree v f tried turn v' f'
    ⊎ ((u : State) × ((g : F) × (PassedTry done excused v f tried u g × IsTurn done excused tree u g tries turn v' f')))

-- the idle turns in a row after a turn
abbrev pub idle_after : Turn → ℕ → ℕ
idle_after (Did made) idle = 0
idle_after Idle idle = min (idle + 1) (2 ^ 32 - 1)
idle_after NoMemory idle = idle

-- What a turn does: its tries, and the count of idle turns. `left` is the worker as the tries left it.
pub record TookTurn {F : Type 0} (done : F → ℕ → Call → Given → F → Type 0) (excused : F → ℕ → Call → F → Type 0) (tree : Tree) (v : State) (f : F) (answer : ℕ) (turn : Turn) (v' : State) (f' : F) : Type 0 where
  pub left : State
  pub made : IsTurn done excused tree v f (turn_tries v answer) turn left f'
  pub counted : v' ≡ record left { idle = idle_after turn v.idle }

-- ---- what a turn asks for
abbrev pub own_credits : ℕ → ℕ → Census
own_credits stage to =
    record {
      opened = λ m k n home. one ((stage == k) && (to == n));
      charged = λ m k n. one ((stage == k) && (to == n));
      posted = λ m k n home. 0;
      popped = λ m k n home. 0;
      framed = λ m k n home. 0;
      emptied = λ m k n. 0;
    }

abbrev pub works_of : ℕ → ℕ → Census
works_of from stage =
    record {
      opened = λ m k n home. 0;
      charged = λ m k n. 0;
      posted = λ m k n home. 0;
      popped = λ m k n home. 0;
      framed = λ m k n home. one ((from == m) && (stage == k));
      emptied = λ m k n. one ((from == m) && (stage == k));
    }

abbrev pub homes_of : ℕ → Census
homes_of machine =
    record {
      opened = λ m k n home. one (machine == home);
      charged = λ m k n. 0;
      posted = λ m k n home. one (machine == home);
      popped = λ m k n home. one (machine == home);
      framed = λ m k n home. one (machine == home);
      emptied = λ m k n. 0;
    }

-- What the fabric knows of the worker is what the worker holds. Its marks are known, or they are of an earlier stage and
-- none are known.
pub record Holds (v : State) (x : Holding) : Type 0 where
  pub enrolled : x.enrolled ≡ v.enrolled
  pub opens : (stage to : ℕ) → x.opens stage to ≡ count (own_credits stage to) v
  pub works : (from stage : ℕ) → x.works from stage ≡ count (works_of from stage) v
  pub buffers : (home : ℕ) → x.buffers home ≡ count (homes_of home) v
  pub seen : v.marks.stage ≤ x.closed
  pub marked : v.marks.stage ≡ x.closed → (word : Word) → x.marked word ≡ is_marked v.marks word
  pub unmarked : v.marks.stage < x.closed → (word : Word) → x.marked word ≡ false

pub record Fits {F : Type 0} (agrees : F → ℕ → Holding → Type 0) (shape : F → Extents) (roots : F → ℕ → ℕ) (tree : Tree) (v : State) (f : F) : Type 0 where
  pub worker : IsWorker v
  pub number : v.machine ≡ v.number / v.shape.workers
  pub within : WithinRoots (tree.roots v.machine) v.stack
  pub tree_fits : TreeFits tree v.shape
  pub same_shape : shape f ≡ v.shape
  pub same_roots : (machine : ℕ) → machine < v.shape.machines → roots f machine ≡ tree.roots machine
  pub holding : Holding
  pub holds : Holds v holding
  pub agreed : agrees f v.number holding

-- what one or more tries answer, after which the worker fits again
pub record Tried {F : Type 0} (agrees : F → ℕ → Holding → Type 0) (done : F → ℕ → Call → Given → F → Type 0)
    (excused : F → ℕ → Call → F → Type 0) (shape : F → Extents) (roots : F → ℕ → ℕ) (tree : Tree) (v : State) (f : F) (tries : List Try) (turn : Turn) (v' : State) (f' : F) : Type 0 where
  pub answered : IsTurn done excused tree v f tries turn v' f'
  pub fits : Fits agrees shape roots tree v' f'

-- the worker is the same but for its marks
abbrev pub IsMoved : State → State → Type 0
IsMoved v v' = v' ≡ record v { marks = v'.marks }
