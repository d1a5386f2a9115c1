-- The tree of a plan over the parts of machines.
use Rattle.std.specs.Prelude.{ℕ, List, [], length, replicate, slice_get, slice_index, Option, Some, None}
use Rattle.match_context.specs.Tree.{Tree}
use Rattle.match_context.specs.declared.context.Context.{Context}
use Rattle.partition.specs.Parts.{MachinePart}
use Rattle.typed_expr.specs.declared.query.Query.{Query}
use Rattle.stage_plan.specs.Plans.{Course}
use Rattle.stage_plan.specs.declared.stage.Stage.{Stage}
use Rattle.plan_tree.specs.Answers.{ahead, place_after, words_after}
use Rattle.plan_tree.specs.Told.{with_number}

-- a plan, the query whose plan it is, the parts that it goes through, and the texts
pub record PlanOverParts : Type 0 where
  pub texts : List (List ℕ)
  pub query : Query
  pub plan : Course
  pub parts : List MachinePart

-- the words of a context that says nothing
unfoldable pub no_words : List ℕ
no_words = replicate 40 0

-- the context of a root: the number of its vertex
abbrev pub root_of : ℕ → Context
root_of number = record { words = with_number 0 number no_words }

abbrev pub numbers_of : Option MachinePart → List ℕ
numbers_of None = []
numbers_of (Some part) = part.numbers

-- the numbers of a machine's vertices
abbrev pub numbers_on : PlanOverParts → ℕ → List ℕ
numbers_on over machine = numbers_of (slice_get over.parts machine)

-- what is taken of a part and a stage, or this where they aren't there
abbrev pub taken : {X : Type 0} → (MachinePart → Stage → X) → X → Option MachinePart → Option Stage → X
taken f none None stage = none
taken f none (Some part) None = none
taken f none (Some part) (Some stage) = f part stage

abbrev pub at_stage : {X : Type 0} → PlanOverParts → ℕ → ℕ → (MachinePart → Stage → X) → X → X
at_stage over machine stage f none = taken f none (slice_get over.parts machine) (slice_get over.plan.stages stage)

-- The roots of a machine are its vertices.
abbrev pub tree_of : PlanOverParts → Tree
tree_of over = record {
  stages = length over.plan.stages;
  machines = length over.parts;
  roots = λ machine. length (numbers_on over machine);
  root = λ machine place. root_of (slice_index (numbers_on over machine) place);
  ahead = λ machine stage context place. at_stage over machine stage (λ part here. ahead over.texts over.query part here context.words place) [];
  context_after = λ machine stage context place.
      record { words = at_stage over machine stage (λ part here. words_after over.texts over.query part here context.words place) context.words };
  place_after = λ machine stage context place. at_stage over machine stage (λ part here. place_after over.texts over.query part here context.words place) place;
}
