-- What a worker's guards tell.
use Rattle.std.proofs.Common.{◌≡◌, ℕ, ◌+◌, ◌≤◌, Bool, true, false, not, List, [], ◌∷◌, Option, Some, None, is_some, refl, ap, arith}
use Rattle.std.specs.Prelude.{nat_le}
use Rattle.std.proofs.lemmas.Bool.Decides.{nat_tests}
use Rattle.match_context.specs.declared.context.Context.{Context}
use Rattle.match_context.specs.declared.frame.Frame.{Frame}
use Rattle.match_context.specs.declared.frame.Rest.{Rest}
use Rattle.match_context.specs.declared.frame.Rest.TheVariants as rest
use Rattle.match_context.specs.declared.message.Message.{Message}
use Rattle.dfs_worker.specs.declared.event.Event.TheVariants as event
use Rattle.dfs_worker.specs.declared.guard.Guard.{Guard}
use Rattle.dfs_worker.specs.declared.guard.Guard.TheVariants as guard
use Rattle.dfs_worker.specs.declared.hand.Hand.{Hand}
use Rattle.dfs_worker.specs.declared.hand.Hand.TheVariants.{Free, Charged, Posted, Popped, Emptied}
use Rattle.dfs_worker.specs.Guards.{own_guard, must, has_top, top_over, waits, child_test, is_charged, is_posted, is_popped, is_emptied}
use Rattle.dfs_worker.specs.Slots.{is_open, open_at}
use Rattle.dfs_worker.specs.State.{State, is_over, is_free, next_stage, waiting, waiting_by}

pub must-none : (test : Bool) (g : Guard) (later : Option Guard) → must test g later ≡ None → (test ≡ true) × (later ≡ None)
must-none true g later h = (refl, h)
must-none false g later h = cc

pub free-hand : (hand : Hand) → is_free hand ≡ true → hand ≡ Free
free-hand Free e = refl
free-hand (Charged stage to) e = cc
free-hand (Posted message) e = cc
free-hand (Popped message) e = cc
free-hand (Emptied from stage) e = cc

not-true : (b : Bool) → not b ≡ true → b ≡ false
not-true true e = cc
not-true false e = refl

-- ---- the top
pub record Waits (worker : State) (frame : Frame) (frames : List Frame) (child : Context × ℕ) : Type 0 where
  pub hand : worker.hand ≡ Free
  pub stack : worker.stack ≡ frame ∷ frames
  pub wait : frame.wait ≡ Some child

-- the top is at work: it waits with no child, and is not over
pub record Works (worker : State) (frame : Frame) (frames : List Frame) : Type 0 where
  pub hand : worker.hand ≡ Free
  pub stack : worker.stack ≡ frame ∷ frames
  pub wait : frame.wait ≡ None
  pub over : is_over frame.rest ≡ false

pub record Starts (worker : State) : Type 0 where
  pub hand : worker.hand ≡ Free
  pub enrolled : worker.enrolled ≡ true
  pub stack : worker.stack ≡ []

pub record Ends (worker : State) (frame : Frame) (frames : List Frame) (message : Message) (next : ℕ) : Type 0 where
  pub hand : worker.hand ≡ Free
  pub stack : worker.stack ≡ frame ∷ frames
  pub rest : frame.rest ≡ rest.Items message next true

pub record Charges (worker : State) (stage to : ℕ) (frame : Frame) (frames : List Frame) (child : Context × ℕ) : Type 0 where
  pub hand : worker.hand ≡ Charged stage to
  pub stack : worker.stack ≡ frame ∷ frames
  pub wait : frame.wait ≡ Some child
  pub same_stage : frame.stage + 1 ≡ stage
  pub same_to : child.1 ≡ to

-- some top of these
abbrev pub SomeTop : (Frame → List Frame → Type 0) → Type 0
SomeTop P = (frame : Frame) × ((frames : List Frame) × P frame frames)

abbrev pub SomeChild : (Frame → List Frame → Context × ℕ → Type 0) → Type 0
SomeChild P = (frame : Frame) × ((frames : List Frame) × ((child : Context × ℕ) × P frame frames child))

top-by : (stack : List Frame) → has_top stack ≡ true → SomeTop (λ frame frames. stack ≡ frame ∷ frames)
top-by [] e = cc
top-by (frame ∷ frames) e = (frame, (frames, refl))

no-top : (stack : List Frame) → not (has_top stack) ≡ true → stack ≡ []
no-top [] e = refl
no-top (frame ∷ frames) e = cc

child-by : (stage : ℕ) (wait : Option (Context × ℕ)) → is_some (waiting_by stage wait) ≡ true → (child : Context × ℕ) × (wait ≡ Some child)
child-by stage None e = cc
child-by stage (Some child) e = (child, refl)

no-child : (stage : ℕ) (wait : Option (Context × ℕ)) → not (is_some (waiting_by stage wait)) ≡ true → wait ≡ None
no-child stage None e = refl
no-child stage (Some child) e = cc

waits-at : (worker : State) → is_free worker.hand ≡ true → has_top worker.stack ≡ true → waits worker.stack ≡ true → SomeChild (Waits worker)
waits-at worker free some child =
    let top = top-by worker.stack some in
    let wait = child-by (top.0.stage + 1) top.0.wait (rw top.1.1 at child) in
    (top.0, (top.1.0, (wait.0, record { hand = free-hand worker.hand free; stack = top.1.1; wait = wait.1 })))

-- what is tested of the waiting child holds of it
pub tested : (test : ℕ → ℕ → Bool) (worker : State) (frame : Frame) (frames : List Frame) (child : Context × ℕ) → Waits worker frame frames child →
    child_test test worker.stack ≡ true → test (frame.stage + 1) child.1 ≡ true
tested test worker frame frames child at e = rw at.wait at (rw at.stack at e)

-- which child waits
pub waiting-is : (worker : State) (frame : Frame) (frames : List Frame) (child : Context × ℕ) → Waits worker frame frames child →
    waiting worker.stack ≡ Some (frame.stage + 1, child.1)
waiting-is worker frame frames child at = rw (at.stack, at.wait) refl

-- ---- by event
pub start-facts : (worker : State) → own_guard (event.Claim 0) worker ≡ None → Starts worker
start-facts worker own =
    let a = must-none (is_free worker.hand) guard.Hand _ own in
    let b = must-none worker.enrolled guard.Enrolled _ a.1 in
    let c = must-none (not (has_top worker.stack)) guard.Stack _ b.1 in
    record { hand = free-hand worker.hand a.0; enrolled = b.0; stack = no-top worker.stack c.0 }

pub advance-facts : (worker : State) → own_guard (event.Advance 0) worker ≡ None → SomeTop (Works worker)
advance-facts worker own =
    let a = must-none (is_free worker.hand) guard.Hand _ own in
    let b = must-none (has_top worker.stack) guard.Stack _ a.1 in
    let c = must-none (not (waits worker.stack)) guard.Child _ b.1 in
    let d = must-none (not (top_over worker.stack)) guard.Over _ c.1 in
    let top = top-by worker.stack b.0 in (
      top.0,
      (
        top.1.0,
        record {
          hand = free-hand worker.hand a.0;
          stack = top.1.1;
          wait = no-child (top.0.stage + 1) top.0.wait (rw top.1.1 at c.0);
          over = not-true (is_over top.0.rest) (rw top.1.1 at d.0);
        },
      ),
    )

-- descend, append and charge: a child waits, and their last test holds
pub child-facts : (worker : State) (test : ℕ → ℕ → Bool) (g : Guard) →
    must (is_free worker.hand) guard.Hand (must (has_top worker.stack) guard.Stack (must (waits worker.stack) guard.Child (must (child_test test worker.stack) g None))) ≡ None →
    SomeChild (λ frame frames child. Waits worker frame frames child × (test (frame.stage + 1) child.1 ≡ true))
child-facts worker test g own =
    let a = must-none (is_free worker.hand) guard.Hand _ own in
    let b = must-none (has_top worker.stack) guard.Stack _ a.1 in
    let c = must-none (waits worker.stack) guard.Child _ b.1 in
    let d = must-none (child_test test worker.stack) g _ c.1 in
    let at = waits-at worker a.0 b.0 c.0 in
    (at.0, (at.1.0, (at.1.1.0, (at.1.1.1, tested test worker at.0 at.1.0 at.1.1.0 at.1.1.1 d.0))))

charged-by : (hand : Hand) → is_charged hand ≡ true → (stage : ℕ) × ((to : ℕ) × (hand ≡ Charged stage to))
charged-by Free e = cc
charged-by (Charged stage to) e = (stage, (to, refl))
charged-by (Posted message) e = cc
charged-by (Popped message) e = cc
charged-by (Emptied from stage) e = cc

pub charged-facts : (worker : State) → own_guard (event.Fetch 0) worker ≡ None → (stage : ℕ) × ((to : ℕ) × (worker.hand ≡ Charged stage to))
charged-facts worker own = charged-by worker.hand (must-none (is_charged worker.hand) guard.Hand _ own).0

parts-of : (a b c d : ℕ) → ◌≡◌ {A = Option (ℕ × ℕ)} (Some (a, b)) (Some (c, d)) → (a ≡ c) × (b ≡ d)
parts-of a b c d e =
    let same : ◌≡◌ {A = ℕ × ℕ} (a, b) (c, d) = cc in
    (ap (λ (p : ℕ × ℕ). p.0) same, ap (λ (p : ℕ × ℕ). p.1) same)

-- the child for which a credit is in hand
charges-by : (worker : State) (stage to : ℕ) (frame : Frame) (frames : List Frame) (wait : Option (Context × ℕ)) → worker.hand ≡ Charged stage to →
    worker.stack ≡ frame ∷ frames → frame.wait ≡ wait → waiting_by (frame.stage + 1) wait ≡ Some (stage, to) →
    SomeChild (Charges worker stage to)
charges-by worker stage to frame frames None hand st wait e = cc
charges-by worker stage to frame frames (Some child) hand st wait e =
    let parts = parts-of (frame.stage + 1) child.1 stage to e in
    (frame, (frames, (child, record { hand = hand; stack = st; wait = wait; same_stage = parts.0; same_to = parts.1 })))

charges-at : (worker : State) (stage to : ℕ) (stack : List Frame) → worker.hand ≡ Charged stage to → worker.stack ≡ stack →
    waiting stack ≡ Some (stage, to) → SomeChild (Charges worker stage to)
charges-at worker stage to [] hand st e = cc
charges-at worker stage to (frame ∷ frames) hand st e = charges-by worker stage to frame frames frame.wait hand st refl e

pub charges-facts : (worker : State) (stage to : ℕ) → worker.hand ≡ Charged stage to → waiting worker.stack ≡ Some (stage, to) → SomeChild (Charges worker stage to)
charges-facts worker stage to hand e = charges-at worker stage to worker.stack hand refl e

open-by : (o : Option Message) → is_some o ≡ true → (message : Message) × (o ≡ Some message)
open-by None e = cc
open-by (Some message) e = (message, refl)

pub post-facts : (worker : State) (stage to : ℕ) → own_guard (event.Post 0 stage to) worker ≡ None →
    (message : Message) × ((worker.hand ≡ Free) × (open_at worker.slots stage to ≡ Some message))
post-facts worker stage to own =
    let a = must-none (is_free worker.hand) guard.Hand _ own in
    let b = must-none (is_open worker.slots stage to) guard.Open _ a.1 in
    let m = open-by (open_at worker.slots stage to) b.0 in
    (m.0, (free-hand worker.hand a.0, m.1))

posted-by : (hand : Hand) → is_posted hand ≡ true → (message : Message) × (hand ≡ Posted message)
posted-by Free e = cc
posted-by (Charged stage to) e = cc
posted-by (Posted message) e = (message, refl)
posted-by (Popped message) e = cc
posted-by (Emptied from stage) e = cc

pub push-facts : (worker : State) → own_guard (event.Push 0) worker ≡ None → (message : Message) × (worker.hand ≡ Posted message)
push-facts worker own = posted-by worker.hand (must-none (is_posted worker.hand) guard.Hand _ own).0

pub pop-facts : (worker : State) (stage : ℕ) → own_guard (event.Pop 0 stage) worker ≡ None → (worker.hand ≡ Free) × (next_stage worker.stack ≤ stage)
pop-facts worker stage own =
    let a = must-none (is_free worker.hand) guard.Hand _ own in
    let b = must-none (nat_le (next_stage worker.stack) stage) guard.Above _ a.1 in
    let above : nat_le (next_stage worker.stack) stage ≡ true = b.0 in
    (free-hand worker.hand a.0, grind (arith, nat_tests))

popped-by : (hand : Hand) → is_popped hand ≡ true → (message : Message) × (hand ≡ Popped message)
popped-by Free e = cc
popped-by (Charged stage to) e = cc
popped-by (Posted message) e = cc
popped-by (Popped message) e = (message, refl)
popped-by (Emptied from stage) e = cc

pub pick-facts : (worker : State) → own_guard (event.Pick 0) worker ≡ None → (message : Message) × (worker.hand ≡ Popped message)
pick-facts worker own = popped-by worker.hand (must-none (is_popped worker.hand) guard.Hand _ own).0

emptied-by : (hand : Hand) → is_emptied hand ≡ true → (from : ℕ) × ((stage : ℕ) × (hand ≡ Emptied from stage))
emptied-by Free e = cc
emptied-by (Charged stage to) e = cc
emptied-by (Posted message) e = cc
emptied-by (Popped message) e = cc
emptied-by (Emptied from stage) e = (from, (stage, refl))

pub discharge-facts : (worker : State) → own_guard (event.Discharge 0) worker ≡ None → (from : ℕ) × ((stage : ℕ) × (worker.hand ≡ Emptied from stage))
discharge-facts worker own = emptied-by worker.hand (must-none (is_emptied worker.hand) guard.Hand _ own).0

over-by : (r : Rest) → is_over r ≡ true → (message : Message) × ((next : ℕ) × (r ≡ rest.Items message next true))
over-by rest.None e = cc
over-by (rest.Roots next end) e = cc
over-by (rest.Items message next over) e = (message, (next, ap (rest.Items message next) e))

over-at : (worker : State) (stack : List Frame) → worker.hand ≡ Free → worker.stack ≡ stack → top_over stack ≡ true →
    SomeTop (λ frame frames. (message : Message) × ((next : ℕ) × Ends worker frame frames message next))
over-at worker [] hand st e = cc
over-at worker (frame ∷ frames) hand st e =
    let r = over-by frame.rest e in
    (frame, (frames, (r.0, (r.1.0, record { hand = hand; stack = st; rest = r.1.1 }))))

pub restore-facts : (worker : State) → own_guard (event.Restore 0) worker ≡ None →
    SomeTop (λ frame frames. (message : Message) × ((next : ℕ) × Ends worker frame frames message next))
restore-facts worker own =
    let a = must-none (is_free worker.hand) guard.Hand _ own in
    let b = must-none (has_top worker.stack) guard.Stack _ a.1 in
    let c = must-none (top_over worker.stack) guard.Over _ b.1 in
    over-at worker worker.stack (free-hand worker.hand a.0) refl c.0
