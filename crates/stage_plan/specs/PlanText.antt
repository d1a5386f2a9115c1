-- The text of a plan.
use Rattle.std.specs.Prelude.{ℕ, ◌+◌, Bool, true, false, List, [], ◌∷◌, ◌++◌, codes, length, slice_get, Option, Some, None}
use Rattle.std.specs.Fmt.{decimal}
use Rattle.std.specs.Option.{option_and_then}
use Rattle.typed_expr.specs.declared.query.Query.{Query}
use Rattle.stage_plan.specs.Plans.{Course}
use Rattle.stage_plan.specs.declared.hop.Hop.{Hop}
use Rattle.stage_plan.specs.declared.hop.Hop.TheVariants as hop

abbrev pub name_or_number : ℕ → Option (List ℕ) → List ℕ
name_or_number number None = 35 ∷ decimal number
name_or_number number (Some name) = name

-- a variable by its name, or by `#` and its number where it has none
abbrev pub variable_text : Query → ℕ → List ℕ
variable_text query number = name_or_number number (option_and_then (λ variable. variable.name) (slice_get query.variables number))

abbrev pub direction : Bool → List ℕ
direction true = codes "out "
direction false = codes "in "

-- the way along an edge to a vertex
abbrev pub way_text : Query → Bool → ℕ → ℕ → List ℕ
way_text query out edge to = direction out ++ (variable_text query edge ++ 32 ∷ variable_text query to)

abbrev pub hop_text : Query → Hop → List ℕ
hop_text query (hop.Root variable) = codes "root " ++ variable_text query variable
hop_text query (hop.Neighbour out edge to) = codes "neighbour " ++ way_text query out edge to
hop_text query (hop.Edge out edge to) = codes "edge " ++ way_text query out edge to
hop_text query (hop.Inspect variable) = codes "inspect " ++ variable_text query variable
hop_text query hop.Output = codes "output"

-- a hop's line begins with the stage at which it is taken
abbrev pub hop_line : Query → ℕ → Hop → List ℕ
hop_line query stage taken = decimal stage ++ 32 ∷ (hop_text query taken ++ 10 ∷ [])

-- the stage after a hop: the root is taken at the same stage as the hop after it
abbrev pub stage_after : ℕ → Hop → ℕ
stage_after stage (hop.Root variable) = stage
stage_after stage taken = stage + 1

abbrev pub hop_lines : Query → ℕ → List Hop → List ℕ
hop_lines query stage [] = []
hop_lines query stage (taken ∷ hops) = hop_line query stage taken ++ hop_lines query (stage_after stage taken) hops

abbrev pub head_text : ℕ → ℕ → ℕ → List ℕ
head_text number stages words =
    codes "query " ++ (decimal number ++ (codes " stages " ++ (decimal stages ++ (codes " words " ++ (decimal words ++ 10 ∷ [])))))

-- the plan of the query of this number
abbrev pub plan_text : ℕ → Course → Query → List ℕ
plan_text number plan query = head_text number (length plan.stages) plan.words ++ hop_lines query 0 plan.hops
