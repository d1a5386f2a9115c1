-- What a worker weighs by a scale: all that its rows, frames, buffers and waiting children do.
use Rattle.std.specs.Prelude.{ℕ, ◌+◌, ◌-◌, if◌then◌else◌, List, [], ◌∷◌, drop, Option, Some, None, zero, suc}
use Rattle.match_context.specs.declared.context.Context.{Context}
use Rattle.match_context.specs.declared.frame.Frame.{Frame}
use Rattle.match_context.specs.declared.frame.Rest.{Rest}
use Rattle.match_context.specs.declared.frame.Rest.TheVariants as rest
use Rattle.match_context.specs.declared.message.Message.{Message}
use Rattle.match_context.specs.Bags.{total}
use Rattle.match_context.specs.Tree.{Tree}
use Rattle.match_context.specs.Weight.{Scale, weight, weight_from}
use Rattle.dfs_worker.specs.declared.hand.Hand.{Hand}
use Rattle.dfs_worker.specs.declared.hand.Hand.TheVariants.{Free, Charged, Posted, Popped, Emptied}
use Rattle.dfs_worker.specs.State.{State, is_over}

-- contexts of a stage that are held for a machine
abbrev pub weight_held : Scale → Tree → ℕ → ℕ → List Context → ℕ
weight_held scale tree stage machine [] = 0
weight_held scale tree stage machine (context ∷ contexts) =
    scale.held + weight scale tree stage machine context + weight_held scale tree stage machine contexts

-- so many roots of a machine, from one on
abbrev pub weight_roots : Scale → Tree → ℕ → ℕ → ℕ → ℕ
weight_roots scale tree machine zero place = 0
weight_roots scale tree machine (suc left) place =
    scale.held + weight scale tree 0 machine (tree.root machine place) + weight_roots scale tree machine left (place + 1)

abbrev pub weight_message : Scale → Tree → Message → ℕ
weight_message scale tree message = weight_held scale tree message.stage message.to message.items.items

-- ---- the stack
abbrev pub weight_rest : Scale → Tree → ℕ → ℕ → Rest → ℕ
weight_rest scale tree stage machine rest.None = 0
weight_rest scale tree stage machine (rest.Roots next end) = weight_roots scale tree machine (end - next) next
weight_rest scale tree stage machine (rest.Items message next over) =
    scale.framed + (if over then 0 else weight_held scale tree stage machine (drop next message.items.items))

abbrev pub weight_wait : Scale → Tree → ℕ → ℕ → Option (Context × ℕ) → ℕ
weight_wait scale tree cost stage None = 0
weight_wait scale tree cost stage (Some child) = cost + weight scale tree stage child.1 child.0

abbrev pub weight_frame : Scale → Tree → ℕ → ℕ → Frame → ℕ
weight_frame scale tree cost machine frame =
    (if is_over frame.rest then 0 else weight_from scale tree frame.stage machine frame.context frame.place)
    + weight_rest scale tree frame.stage machine frame.rest
    + weight_wait scale tree cost (frame.stage + 1) frame.wait

-- `cost` is what the waiting child of the top counts beside its own weight
abbrev pub weight_stack : Scale → Tree → ℕ → ℕ → List Frame → ℕ
weight_stack scale tree cost machine [] = 0
weight_stack scale tree cost machine (frame ∷ frames) =
    weight_frame scale tree cost machine frame + weight_stack scale tree scale.waiting machine frames

abbrev pub wait_cost : Scale → Hand → ℕ
wait_cost scale Free = scale.waiting
wait_cost scale (Charged stage to) = scale.charged
wait_cost scale (Posted message) = scale.waiting
wait_cost scale (Popped message) = scale.waiting
wait_cost scale (Emptied from stage) = scale.waiting

-- ---- hand, open buffers and rows
abbrev pub weight_hand : Scale → Tree → Hand → ℕ
weight_hand scale tree Free = 0
weight_hand scale tree (Charged stage to) = 0
weight_hand scale tree (Posted message) = scale.posted + weight_message scale tree message
weight_hand scale tree (Popped message) = scale.popped + weight_message scale tree message
weight_hand scale tree (Emptied from stage) = scale.emptied

abbrev pub weight_slot : Scale → Tree → Option Message → ℕ
weight_slot scale tree None = 0
weight_slot scale tree (Some message) = scale.opened + weight_message scale tree message

abbrev pub weight_worker : Scale → Tree → State → ℕ
weight_worker scale tree worker =
    weight_stack scale tree (wait_cost scale worker.hand) worker.machine worker.stack
    + weight_hand scale tree worker.hand + total (weight_slot scale tree) worker.slots.messages + total scale.row worker.rows
