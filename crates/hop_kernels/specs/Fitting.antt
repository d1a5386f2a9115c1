-- What a stage names is there.
use Rattle.std.specs.Prelude.{◌≡◌, ℕ, ◌+◌, ◌<◌, ◌≤◌, length, Option, Some, None}
use Rattle.std.specs.List.{AllByRecursion}
use Rattle.adfs_base.specs.declared.limits.TheConstants.{CONTEXT_WORDS}
use Rattle.typed_expr.specs.declared.query.Query.{Query}
use Rattle.stage_plan.specs.Walk.{captures_of_any, edge_of, uses}
use Rattle.stage_plan.specs.declared.hop.Hop.{Hop}
use Rattle.stage_plan.specs.declared.hop.Hop.TheVariants as hop
use Rattle.stage_plan.specs.declared.stage.Gains.{Gains}
use Rattle.stage_plan.specs.declared.stage.Stage.{Stage}

-- A context has room for the query's matches.
abbrev pub HasRoom : Query → Type 0
HasRoom query = 1 + length query.variables + length query.captures ≤ CONTEXT_WORDS

-- The conjuncts are there, and the captures are those that they use.
pub record ReadsFit (query : Query) (gains : Gains) : Type 0 where
  pub conjuncts_there : AllByRecursion (λ number. number < length query.conjuncts) gains.conjuncts
  pub reads_are : gains.reads ≡ uses query gains.conjuncts
  pub reads_there : AllByRecursion (λ place. place < length query.captures) gains.reads

-- What is gained are the captures of a variable, if there is one, and conjuncts.
pub record GainsFit (query : Query) (variable : Option ℕ) (gains : Gains) : Type 0 where
  pub captures_are : gains.captures ≡ captures_of_any query variable
  pub captures_there : AllByRecursion (λ place. place < length query.captures) gains.captures
  pub reads_fit : ReadsFit query gains

abbrev pub IsBelow : ℕ → Option ℕ → Type 0
IsBelow count None = Unit {0}
IsBelow count (Some variable) = variable < count

abbrev pub IsThere : Query → Option ℕ → Type 0
IsThere query variable = IsBelow (length query.variables) variable

abbrev pub HopFits : Query → Hop → Type 0
HopFits query (hop.Root variable) = Unit {0}
HopFits query (hop.Neighbour out edge to) = (edge < length query.variables) × (to < length query.variables)
HopFits query (hop.Edge out edge to) = (edge < length query.variables) × (to < length query.variables)
HopFits query (hop.Inspect variable) = variable < length query.variables
HopFits query hop.Output = Unit {0}

pub record StageFits (query : Query) (stage : Stage) : Type 0 where
  pub arriving_there : IsThere query stage.arriving
  pub arrival_fits : GainsFit query stage.arriving stage.arrival
  pub current_there : stage.current < length query.variables
  pub hop_there : HopFits query stage.hop
  pub passage_fits : GainsFit query (edge_of stage.hop) stage.passage
