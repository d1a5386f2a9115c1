-- How high a stack may be.
use Rattle.std.proofs.Common.{◌≡◌, ℕ, ◌+◌, ◌<◌, ◌≤◌, Bool, List, [], ◌∷◌, length, Option, Some, None, refl, sym, ap, ◌∙◌, arith, suc}
use Rattle.adfs_base.specs.Shape.{Extents}
use Rattle.match_context.specs.declared.context.Context.{Context}
use Rattle.match_context.specs.declared.frame.Frame.{Frame}
use Rattle.match_context.specs.declared.frame.Rest.{Rest}
use Rattle.match_context.specs.declared.frame.Rest.TheVariants as rest
use Rattle.match_context.specs.declared.message.Message.{Message}
use Rattle.dfs_worker.specs.declared.hand.Hand.TheVariants.{Popped}
use Rattle.dfs_worker.specs.Sound.{StandsOn, IsStack, IsWaiting, IsWorker}
use Rattle.dfs_worker.specs.State.{State, next_stage, waiting, waiting_by}
use Rattle.dfs_worker.specs.Tower.{Tower, with_frames, without_child}

-- a stack holds at most one frame of each stage up to its top's
pub stack-fits : (shape : Extents) (enrolled : Bool) (machine : ℕ) (frames : List Frame) → IsStack shape enrolled machine frames → length frames ≤ next_stage frames
stack-fits shape enrolled machine [] h = omega arith
stack-fits shape enrolled machine (frame ∷ frames) h = on frame.rest h.0.stands (stack-fits shape enrolled machine frames h.1)
  where
    on : (r : Rest) → StandsOn shape enrolled machine frame.stage (next_stage frames) frames frame.wait r → length frames ≤ next_stage frames →
        suc (length frames) ≤ frame.stage + 1
    on rest.None s below = omega arith
    on (rest.Roots next end) s below = rw s.1 (omega arith)
    on (rest.Items message next over) s below = let above = s.above in omega arith

pub top-low : (shape : Extents) (enrolled : Bool) (machine : ℕ) (frames : List Frame) → IsStack shape enrolled machine frames → next_stage frames ≤ shape.stages
top-low shape enrolled machine [] h = omega arith
top-low shape enrolled machine (frame ∷ frames) h = let low = h.0.stage in omega arith

pub length-without_child : (frames : List Frame) → length (without_child frames) ≡ length frames
length-without_child [] = refl
length-without_child (frame ∷ frames) = refl

child-low : (shape : Extents) (stage : ℕ) (wait : Option (Context × ℕ)) (child : ℕ × ℕ) → IsWaiting shape stage wait → waiting_by (stage + 1) wait ≡ Some child → stage + 1 < shape.stages
child-low shape stage None child h e = cc
child-low shape stage (Some w) child h e = h.0

waiting-low : (shape : Extents) (enrolled : Bool) (machine : ℕ) (frames : List Frame) (child : ℕ × ℕ) → IsStack shape enrolled machine frames →
    waiting frames ≡ Some child → length frames < shape.stages
waiting-low shape enrolled machine [] child h e = cc
waiting-low shape enrolled machine (frame ∷ frames) child h e =
    let low = child-low shape frame.stage frame.wait child h.0.wait e in
    let fits = stack-fits shape enrolled machine (frame ∷ frames) h in
    omega arith

-- where a child waits there is room for its frame
pub waiting-room : (worker : State) (child : ℕ × ℕ) → IsWorker worker → waiting worker.stack ≡ Some child → length worker.stack < worker.shape.stages
waiting-room worker child h e = waiting-low worker.shape worker.enrolled worker.machine worker.stack child h.stack e

-- so is there for a message in hand
pub popped-room : (worker : State) (message : Message) → IsWorker worker → worker.hand ≡ Popped message → length worker.stack < worker.shape.stages
popped-room worker message h e =
    let hand = rw e at h.hand in
    let fits = stack-fits worker.shape worker.enrolled worker.machine worker.stack h.stack in
    let above = hand.1 in
    let low = hand.2.stage in
    omega arith

-- the same of a worker's own stack, whose child is taken, and for its hand
pub waiting-push : (worker : State) (stack tower : Tower) (stages : ℕ) (child : ℕ × ℕ) → IsWorker worker → stack.frames ≡ worker.stack →
    stages ≡ worker.shape.stages → stages ≤ stack.room → Some child ≡ waiting worker.stack →
    tower ≡ with_frames stack (without_child stack.frames) → length tower.frames < tower.room
waiting-push worker stack tower stages child h same_stack same_stages room waits taken =
    let low = waiting-room worker child h (sym waits) in
    let same : length (without_child stack.frames) ≡ length worker.stack = length-without_child stack.frames ∙ ap length same_stack in
    rw taken (omega arith)

pub popped-push : (worker : State) (stack : Tower) (stages : ℕ) (message : Message) → IsWorker worker → stack.frames ≡ worker.stack →
    stages ≡ worker.shape.stages → stages ≤ stack.room → worker.hand ≡ Popped message → length stack.frames < stack.room
popped-push worker stack stages message h same_stack same_stages room hand =
    let low = popped-room worker message h hand in
    rw same_stack (omega arith)

-- what was taken off may be put back
pub taken-room : (worker left : State) (frame : Frame) → IsWorker worker → worker.stack ≡ frame ∷ left.stack → left ≡ record worker { stack = left.stack } →
    length left.stack < left.shape.stages
taken-room worker left frame h st is =
    let fits = stack-fits worker.shape worker.enrolled worker.machine worker.stack h.stack in
    let low = top-low worker.shape worker.enrolled worker.machine worker.stack h.stack in
    let one_more : length worker.stack ≡ suc (length left.stack) = ap length st in
    let same : left.shape.stages ≡ worker.shape.stages = ap (λ (v : State). v.shape.stages) is in
    omega arith
