-- What is ahead of a frame on a machine's part.
use Rattle.std.specs.Prelude.{ℕ, List, [], Some, slice_get}
use Rattle.match_context.specs.Tree.{Item}
use Rattle.match_context.specs.declared.frame.Frame.{Frame}
use Rattle.partition.specs.Parts.{MachinePart}
use Rattle.typed_expr.specs.declared.query.Query.{Query}
use Rattle.stage_plan.specs.Plans.{Course}
use Rattle.plan_tree.specs.Answers.{ahead, place_after, words_after}
use Rattle.plan_tree.specs.PlanTree.{taken}

-- the answers that are ahead
abbrev pub ahead_of : List (List ℕ) → Query → MachinePart → Course → Frame → List Item
ahead_of texts query part plan frame =
    taken (λ here stage. ahead texts query here stage frame.context.words frame.place) [] (Some part) (slice_get plan.stages frame.stage)

-- the frame after the first of them
abbrev pub frame_after : List (List ℕ) → Query → MachinePart → Course → Frame → Frame
frame_after texts query part plan frame = record frame {
  context = record { words = taken (λ here stage. words_after texts query here stage frame.context.words frame.place) frame.context.words (Some part) (slice_get plan.stages frame.stage) };
  place = taken (λ here stage. place_after texts query here stage frame.context.words frame.place) frame.place (Some part) (slice_get plan.stages frame.stage);
}
