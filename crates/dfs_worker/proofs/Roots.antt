-- The later roots on a stack stay below the same number.
use Rattle.std.proofs.Common.{ℕ, ◌+◌, ◌≤◌, Bool, true, false, cond, List, [], ◌∷◌, length, get_or, Option, Some, None, arith}
use Rattle.std.specs.Prelude.{nat_lt}
use Rattle.match_context.specs.Batch.{Batch}
use Rattle.match_context.specs.declared.context.Context.{Context}
use Rattle.match_context.specs.declared.expand.Next.{Next}
use Rattle.match_context.specs.declared.expand.Next.TheVariants.{Child, Row, Skip, End}
use Rattle.match_context.specs.declared.frame.Frame.{Frame}
use Rattle.match_context.specs.declared.frame.Rest.{Rest}
use Rattle.match_context.specs.declared.frame.Rest.TheVariants as rest
use Rattle.match_context.specs.declared.message.Message.{Message}
use Rattle.match_context.specs.Tree.{Tree, after}
use Rattle.dfs_worker.specs.declared.hand.Hand.{Hand}
use Rattle.dfs_worker.specs.declared.hand.Hand.TheVariants.{Free, Charged, Posted, Popped, Emptied}
use Rattle.dfs_worker.specs.Own.{claimed, ended, stepped, onto, answer_at, frames_after, descended_at, descended_by, descended, appended, appended_at, appended_by, fetched, fetched_by, fetched_at, fetched_for, message_frame, picked, picked_by, restored, restored_at, restored_by, charged, charged_for, posted, posted_by}
use Rattle.dfs_worker.specs.Slots.{open_at}
use Rattle.dfs_worker.specs.Sound.{RestWithin, WithinRoots}
use Rattle.dfs_worker.specs.State.{State, waiting}

-- the roots may be more
rest-more : (a b : ℕ) (r : Rest) → RestWithin a r → a ≤ b → RestWithin b r
rest-more a b rest.None h le = tt
rest-more a b (rest.Roots next end) h le = omega arith
rest-more a b (rest.Items message next over) h le = tt

pub roots-more : (a b : ℕ) (frames : List Frame) → WithinRoots a frames → a ≤ b → WithinRoots b frames
roots-more a b [] h le = tt
roots-more a b (frame ∷ frames) h le = (rest-more a b frame.rest h.0 le, roots-more a b frames h.1 le)

pub claimed-roots : (roots : ℕ) (tree : Tree) (worker : State) (first end : ℕ) → WithinRoots roots worker.stack → end ≤ roots → WithinRoots roots (claimed tree first end worker).stack
claimed-roots roots tree worker first end h le = (le, h)

ended-roots : (roots : ℕ) (tree : Tree) (machine : ℕ) (frame : Frame) (frames : List Frame) (r : Rest) → RestWithin roots r → WithinRoots roots frames →
    WithinRoots roots (onto (ended tree machine frame r) frames)
ended-roots roots tree machine frame frames rest.None h below = below
ended-roots roots tree machine frame frames (rest.Roots next end) h below = go (nat_lt next end)
  where
    go : (b : Bool) → WithinRoots roots (onto (cond b (Some (record frame { context = tree.root machine next; place = 0; rest = rest.Roots (next + 1) end })) None) frames)
    go true = (h, below)
    go false = below
ended-roots roots tree machine frame frames (rest.Items message next over) h below = go (nat_lt next (length message.items.items))
  where
    go : (b : Bool) → WithinRoots roots (onto (cond b (Some (record frame { context = get_or message.items.items next frame.context; place = 0; rest = rest.Items message (next + 1) over })) (Some (record frame { rest = rest.Items message next true }))) frames)
    go true = (tt, below)
    go false = (tt, below)

stepped-roots : (roots : ℕ) (tree : Tree) (machine : ℕ) (frame : Frame) (frames : List Frame) (next : Next) → WithinRoots roots (frame ∷ frames) →
    WithinRoots roots (onto (stepped tree machine (after tree machine frame) next) frames)
stepped-roots roots tree machine frame frames (Child context to) h = h
stepped-roots roots tree machine frame frames (Row context) h = h
stepped-roots roots tree machine frame frames Skip h = h
stepped-roots roots tree machine frame frames End h = ended-roots roots tree machine (after tree machine frame) frames frame.rest h.0 h.1

pub advanced-roots : (roots : ℕ) (tree : Tree) (machine : ℕ) (frames : List Frame) → WithinRoots roots frames → WithinRoots roots (frames_after tree machine frames)
advanced-roots roots tree machine [] h = tt
advanced-roots roots tree machine (frame ∷ frames) h = stepped-roots roots tree machine frame frames (answer_at tree machine frame) h

descended-by : (roots : ℕ) (worker : State) (frame : Frame) (frames : List Frame) (wait : Option (Context × ℕ)) → WithinRoots roots worker.stack →
    WithinRoots roots (frame ∷ frames) → WithinRoots roots (descended_by worker frame frames wait).stack
descended-by roots worker frame frames None h at = h
descended-by roots worker frame frames (Some child) h at = (tt, at)

descended-at : (roots : ℕ) (worker : State) (stack : List Frame) → WithinRoots roots worker.stack → WithinRoots roots stack → WithinRoots roots (descended_at worker stack).stack
descended-at roots worker [] h at = h
descended-at roots worker (frame ∷ frames) h at = descended-by roots worker frame frames frame.wait h at

pub descended-roots : (roots : ℕ) (worker : State) → WithinRoots roots worker.stack → WithinRoots roots (descended worker).stack
descended-roots roots worker h = descended-at roots worker worker.stack h h

appended-by : (roots : ℕ) (worker : State) (frame : Frame) (frames : List Frame) (wait : Option (Context × ℕ)) → WithinRoots roots worker.stack →
    WithinRoots roots (frame ∷ frames) → WithinRoots roots (appended_by worker frame frames wait).stack
appended-by roots worker frame frames None h at = h
appended-by roots worker frame frames (Some child) h at = at

appended-at : (roots : ℕ) (worker : State) (stack : List Frame) → WithinRoots roots worker.stack → WithinRoots roots stack → WithinRoots roots (appended_at worker stack).stack
appended-at roots worker [] h at = h
appended-at roots worker (frame ∷ frames) h at = appended-by roots worker frame frames frame.wait h at

pub appended-roots : (roots : ℕ) (worker : State) → WithinRoots roots worker.stack → WithinRoots roots (appended worker).stack
appended-roots roots worker h = appended-at roots worker worker.stack h h

charged-by : (roots : ℕ) (worker : State) (child : Option (ℕ × ℕ)) → WithinRoots roots worker.stack → WithinRoots roots (charged_for worker child).stack
charged-by roots worker None h = h
charged-by roots worker (Some child) h = h

pub charged-roots : (roots : ℕ) (worker : State) → WithinRoots roots worker.stack → WithinRoots roots (charged worker).stack
charged-roots roots worker h = charged-by roots worker (waiting worker.stack) h

fetched-for : (roots : ℕ) (worker : State) (stage to : ℕ) (batch : Batch) (frame : Frame) (frames : List Frame) (wait : Option (Context × ℕ)) → WithinRoots roots worker.stack →
    WithinRoots roots (frame ∷ frames) → WithinRoots roots (fetched_for worker stage to batch frame frames wait).stack
fetched-for roots worker stage to batch frame frames None h at = h
fetched-for roots worker stage to batch frame frames (Some child) h at = at

fetched-at : (roots : ℕ) (worker : State) (stage to : ℕ) (batch : Batch) (stack : List Frame) → WithinRoots roots worker.stack → WithinRoots roots stack →
    WithinRoots roots (fetched_at worker stage to batch stack).stack
fetched-at roots worker stage to batch [] h at = h
fetched-at roots worker stage to batch (frame ∷ frames) h at = fetched-for roots worker stage to batch frame frames frame.wait h at

fetched-by : (roots : ℕ) (worker : State) (batch : Batch) (hand : Hand) → WithinRoots roots worker.stack → WithinRoots roots (fetched_by worker batch hand).stack
fetched-by roots worker batch Free h = h
fetched-by roots worker batch (Charged stage to) h = fetched-at roots worker stage to batch worker.stack h h
fetched-by roots worker batch (Posted message) h = h
fetched-by roots worker batch (Popped message) h = h
fetched-by roots worker batch (Emptied from stage) h = h

pub fetched-roots : (roots : ℕ) (worker : State) (batch : Batch) → WithinRoots roots worker.stack → WithinRoots roots (fetched batch worker).stack
fetched-roots roots worker batch h = fetched-by roots worker batch worker.hand h

posted-by : (roots : ℕ) (worker : State) (stage to : ℕ) (message : Option Message) → WithinRoots roots worker.stack → WithinRoots roots (posted_by worker stage to message).stack
posted-by roots worker stage to None h = h
posted-by roots worker stage to (Some message) h = h

pub posted-roots : (roots : ℕ) (worker : State) (stage to : ℕ) → WithinRoots roots worker.stack → WithinRoots roots (posted stage to worker).stack
posted-roots roots worker stage to h = posted-by roots worker stage to (open_at worker.slots stage to) h

message-roots : (roots : ℕ) (message : Message) (contexts : List Context) (frames : List Frame) → WithinRoots roots frames → WithinRoots roots (message_frame message contexts frames)
message-roots roots message [] frames h = h
message-roots roots message (context ∷ contexts) frames h = (tt, h)

picked-by : (roots : ℕ) (worker : State) (hand : Hand) → WithinRoots roots worker.stack → WithinRoots roots (picked_by worker hand).stack
picked-by roots worker Free h = h
picked-by roots worker (Charged stage to) h = h
picked-by roots worker (Posted message) h = h
picked-by roots worker (Popped message) h = message-roots roots message message.items.items worker.stack h
picked-by roots worker (Emptied from stage) h = h

pub picked-roots : (roots : ℕ) (worker : State) → WithinRoots roots worker.stack → WithinRoots roots (picked worker).stack
picked-roots roots worker h = picked-by roots worker worker.hand h

restored-by : (roots : ℕ) (worker : State) (frames : List Frame) (r : Rest) → WithinRoots roots worker.stack → WithinRoots roots frames → WithinRoots roots (restored_by worker frames r).stack
restored-by roots worker frames rest.None h at = h
restored-by roots worker frames (rest.Roots next end) h at = h
restored-by roots worker frames (rest.Items message next over) h at = at

restored-at : (roots : ℕ) (worker : State) (stack : List Frame) → WithinRoots roots worker.stack → WithinRoots roots stack → WithinRoots roots (restored_at worker stack).stack
restored-at roots worker [] h at = h
restored-at roots worker (frame ∷ frames) h at = restored-by roots worker frames frame.rest h at.1

pub restored-roots : (roots : ℕ) (worker : State) → WithinRoots roots worker.stack → WithinRoots roots (restored worker).stack
restored-roots roots worker h = restored-at roots worker worker.stack h h
