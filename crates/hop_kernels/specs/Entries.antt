-- The entries along which a hop goes, and what comes of one.
use Rattle.std.specs.Prelude.{◌≡◌, ℕ, ◌<◌, ◌^◌, Bool, List, Option, Some, IsSome, slice_get}
use Rattle.match_context.specs.declared.expand.Next.{Next}
use Rattle.match_context.specs.declared.expand.Next.TheVariants.{Child, Row, Skip, End}
use Rattle.partition.specs.Parts.{Entry, MachinePart, entry_at}
use Rattle.typed_expr.specs.declared.query.Query.{Query}
use Rattle.stage_plan.specs.declared.stage.Gains.{Gains}
use Rattle.plan_tree.specs.Answers.{along, child_or_pass, edge_in, entries_in}
use Rattle.plan_tree.specs.Told.{with_number}
use Rattle.hop_kernels.specs.Looks.{one_answer, with_end}
use Rattle.hop_kernels.specs.Spots.{entry_in}

-- The list of a vertex has an entry of this number, and the vertex is at this place.
pub record IsEntryAt (out : Bool) (part : MachinePart) (vertex number place : ℕ) : Type 0 where
  pub there : IsSome (entry_at out part place number)
  pub same : slice_get (entries_in out part vertex) number ≡ Some (entry_in out part place number)
  pub low : number < 2 ^ 32

-- An answer that isn't the end is of a place that can be counted further.
abbrev pub IsLow : Next → ℕ → Type 0
IsLow End place = Unit {0}
IsLow (Child context machine) place = place < 2 ^ 32
IsLow (Row context) place = place < 2 ^ 32
IsLow Skip place = place < 2 ^ 32

-- what `next` answers at an entry whose other end may be the new vertex
abbrev pub answer_along : List (List ℕ) → Query → Gains → ℕ → Option ℕ → List ℕ → Entry → Next
answer_along texts query gains edge to words entry =
    one_answer (child_or_pass (along texts query gains edge (edge_in entry) (with_end to entry.other (with_number edge entry.edge words))) entry.machine)

-- one thing at the end of a context, and another after an answer
abbrev pub after_answer : {X : Type 0} → Next → X → X → X
after_answer End none some = none
after_answer (Child context machine) none some = some
after_answer (Row context) none some = some
after_answer Skip none some = some
