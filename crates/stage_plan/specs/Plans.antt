-- The plan of a query.
use Rattle.std.specs.Prelude.{◌≡◌, ℕ, ◌+◌, ◌<◌, ◌≤◌, List, length, nat_lt, Result, Ok, Err, if◌then◌else◌}
use Rattle.adfs_base.specs.declared.limits.TheConstants.{CONTEXT_WORDS, MOST_STAGES}
use Rattle.typed_expr.specs.declared.query.Query.{Query}
use Rattle.stage_plan.specs.Hops.{hops_of}
use Rattle.stage_plan.specs.Walk.{stages_of}
use Rattle.stage_plan.specs.declared.fault.PlanFault.{PlanFault}
use Rattle.stage_plan.specs.declared.fault.PlanFault.TheVariants.{NoMemory, TooWide}
use Rattle.stage_plan.specs.declared.hop.Hop.{Hop}
use Rattle.stage_plan.specs.declared.stage.Stage.{Stage}

-- a plan as contracts see it: its hops, the stages at which they are taken, and how many words a context has
pub record Course : Type 0 where
  pub hops : List Hop
  pub stages : List Stage
  pub words : ℕ

-- A plan has a stage, and no more than there may be.
pub record IsCourse (plan : Course) : Type 0 where
  pub few_hops : length plan.hops ≤ MOST_STAGES + 1
  pub some_stages : 0 < length plan.stages
  pub few_stages : length plan.stages ≤ MOST_STAGES

-- one for the nulls, one for each variable, and one for each capture
abbrev pub words_of : Query → ℕ
words_of query = 1 + length query.variables + length query.captures

abbrev pub plan_of : Query → Course
plan_of query = record { hops = hops_of query; stages = stages_of query (hops_of query); words = words_of query }

-- a query has a plan where a context has room for it
abbrev pub planned : Query → Result Course PlanFault
planned query = if nat_lt CONTEXT_WORDS (words_of query) then Err (TooWide (words_of query)) else Ok (plan_of query)

-- The call returned that, or there was no memory.
abbrev pub Gives : Result Course PlanFault → Result Course PlanFault → Type 0
Gives (Ok plan) wanted = wanted ≡ Ok plan
Gives (Err NoMemory) wanted = Unit {0}
Gives (Err e) wanted = wanted ≡ Err e
