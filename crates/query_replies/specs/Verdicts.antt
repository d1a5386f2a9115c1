-- What comes of a query's text.
use Rattle.std.specs.Prelude.{◌≡◌, ℕ, ◌≤◌, true, List, Ok, Err}
use Rattle.adfs_base.specs.declared.limits.TheConstants.{CONTEXT_WORDS}
use Rattle.graph_tables.specs.Properties.{SchemaLists}
use Rattle.pgql_meaning.specs.Shown.{HasMeaning}
use Rattle.pgql_tree.specs.declared.ast.Ast.{Ast}
use Rattle.result_collect.specs.Refusals.{refusal_text}
use Rattle.stage_plan.specs.Plans.{Course, plan_of, planned, words_of}
use Rattle.stage_plan.specs.declared.fault.PlanFault.{PlanFault}
use Rattle.typed_expr.specs.Captured.{HaveKinds}
use Rattle.typed_expr.specs.WellFormed.{IsWellFormed}
use Rattle.typed_query.specs.declared.query.Query.{Query}
use Rattle.query_replies.specs.Faults.{refusal_of_planning}
use Rattle.query_replies.specs.Replies.{Answering, IsAnswer, IsReading, Meaningful}
use Rattle.query_replies.specs.declared.reading.Verdict.{Verdict}
use Rattle.query_replies.specs.declared.reading.Verdict.TheVariants.{Accepted, Refused}

-- It is refused by this line.
abbrev pub IsRefusal : List ℕ → Verdict → Type 0
IsRefusal line (Accepted query plan) = ⊥
IsRefusal line (Refused text) = text.items ≡ line

-- The query has a plan, which is this.
pub record HasPlan (query : Query) (plan : Course) : Type 0 where
  pub planned_so : planned query ≡ Ok plan
  pub plan_is : plan ≡ plan_of query
  pub room : words_of query ≤ CONTEXT_WORDS

-- What comes of a query that means something: it has a plan, or it is refused since it has none.
abbrev pub IsPlanVerdict : ℕ → Query → Verdict → Type 0
IsPlanVerdict number query (Accepted found plan) = (found ≡ query) × HasPlan query plan
IsPlanVerdict number query (Refused text) = (e : PlanFault) × (planned query ≡ Err e) × (text.items ≡ refusal_text number (refusal_of_planning e))

-- The text is that of a query which has this plan, and keeps to all on which answers rest. The texts are as the first list
-- before, and as the second after it.
pub record IsAccepted (schema : SchemaLists) (base : ℕ) (text : List ℕ) (old new : List (List ℕ)) (query : Query) (plan : Course) : Type 0 where
  pub tree : Ast
  pub is_reading : IsReading schema base text old new (Meaningful tree query)
  pub has_plan : HasPlan query plan
  pub well : IsWellFormed query
  pub meaning : HasMeaning new query
  pub kinds : HaveKinds schema query

-- The text is one of those; or it is refused by this line, whatever is asked of queries.
abbrev pub IsVerdict : SchemaLists → ℕ → ℕ → List ℕ → List (List ℕ) → List (List ℕ) → Verdict → Type 0
IsVerdict schema number base text old new (Accepted query plan) = IsAccepted schema base text old new query plan
IsVerdict schema number base text old new (Refused line) = (answering : Answering) → IsAnswer answering schema number base text old new line.items true
