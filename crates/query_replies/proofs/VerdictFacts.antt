-- What comes of a text, from what its parts came to.
use Rattle.std.proofs.Common.{◌≡◌, ◌≢◌, ℕ, ◌≤◌, nat_lt, Bool, true, false, if◌then◌else◌, List, Result, Ok, Err, IfOk, is_err, refl, sym, ap, subst, ◌∙◌, arith}
use Rattle.std.proofs.lemmas.Grind.{common_steps}
use Rattle.adfs_base.specs.declared.limits.TheConstants.{CONTEXT_WORDS}
use Rattle.adfs_base.specs.declared.no_memory.NoMemory.{NoMemory}
use Rattle.graph_tables.specs.Graph.{PropertyGraph}
use Rattle.graph_tables.specs.Properties.{SchemaLists}
use Rattle.pgql_meaning.specs.Shown.{HasMeaning}
use Rattle.pgql_syntax.specs.Places.{IsFault, IsTree}
use Rattle.pgql_syntax.specs.declared.tree.SyntaxFault.{SyntaxFault}
use Rattle.pgql_tree.specs.declared.ast.Ast.{Ast}
use Rattle.result_collect.specs.Refusals.{refusal_text}
use Rattle.result_collect.specs.declared.refusal.Refusal.{Refusal}
use Rattle.result_collect.specs.declared.refusal.Refusal.TheVariants as refusal
use Rattle.stage_plan.specs.Plans.{Course, plan_of, planned, words_of}
use Rattle.stage_plan.specs.declared.fault.PlanFault.{PlanFault}
use Rattle.stage_plan.specs.declared.fault.PlanFault.TheVariants as planning
use Rattle.typed_expr.specs.Captured.{HaveKinds}
use Rattle.typed_expr.specs.Typed.{Gives, typed}
use Rattle.typed_expr.specs.WellFormed.{IsWellFormed}
use Rattle.typed_expr.specs.declared.fault.TypeFault.{TypeFault}
use Rattle.typed_expr.specs.declared.fault.TypeFault.TheVariants as typing
use Rattle.typed_query.specs.declared.query.Query.{Query}
use Rattle.query_replies.specs.Faults.{refusal_of_planning, refusal_of_syntax, refusal_of_typing}
use Rattle.query_replies.specs.Replies.{Answering, IsAnswer, Meaningful, text_by}
use Rattle.query_replies.specs.Verdicts.{HasPlan, IsAccepted, IsPlanVerdict, IsRefusal, IsVerdict}
use Rattle.query_replies.specs.declared.reading.Verdict.{Verdict}
use Rattle.query_replies.specs.declared.reading.Verdict.TheVariants.{Accepted, Refused}
use Rattle.query_replies.proofs.Steps.{of_text, of_tree}

-- ---- plans

plan_by : (query : Query) (plan : Course) (wide : Bool) → ◌≡◌ {A = Result Course PlanFault} (if wide then Err (planning.TooWide (words_of query)) else Ok (plan_of query)) (Ok plan)
    → (wide ≡ false) × (plan ≡ plan_of query)
plan_by query plan true is = absurd cc
plan_by query plan false is = (refl, cc)

not_wide : (most words : ℕ) → nat_lt most words ≡ false → words ≤ most
not_wide most words is = grind (arith, common_steps)

pub has_plan : (query : Query) (plan : Course) → planned query ≡ Ok plan → HasPlan query plan
has_plan query plan is =
    let both = plan_by query plan (nat_lt CONTEXT_WORDS (words_of query)) is in
    record { planned_so = is; plan_is = both.1; room = not_wide CONTEXT_WORDS (words_of query) both.0 }

pub too_wide : (number : ℕ) (query : Query) (words : ℕ) (result : Result Verdict NoMemory) → planned query ≡ Err (planning.TooWide words)
    → IfOk result (IsRefusal (refusal_text number (refusal.TooWide words))) → IfOk result (IsPlanVerdict number query)
too_wide number query words (Ok (Accepted found plan)) is refused = absurd refused
too_wide number query words (Ok (Refused text)) is refused = (planning.TooWide words, is, refused)
too_wide number query words (Err e) is refused = refused

-- ---- texts

module _ (schema : SchemaLists) (number base : ℕ) (text : List ℕ) (old new : List (List ℕ)) where
  -- a refused line answers whatever is asked
  refuses : (line : List ℕ) (result : Result Verdict NoMemory) → ((reply : List ℕ) → reply ≡ line → (answering : Answering) → IsAnswer answering schema number base text old new reply true)
      → IfOk result (IsRefusal line) → IfOk result (IsVerdict schema number base text old new)
  refuses line (Ok (Accepted found plan)) leads refused = absurd refused
  refuses line (Ok (Refused reply)) leads refused = leads reply.items refused
  refuses line (Err e) leads refused = refused

  pub refused_by_tree : (tree : Ast) (e : TypeFault) (why : Refusal) (result : Result Verdict NoMemory) → IsTree 64 base text tree → e ≢ typing.NoMemory
      → Gives old new (Err e) (typed schema old tree) → why ≡ refusal_of_typing e → IfOk result (IsRefusal (refusal_text number why)) → IfOk result (IsVerdict schema number base text old new)
  refused_by_tree tree e why result is_tree other gives is refused =
      refuses (refusal_text number why) result (λ reply is_reply answering. of_tree answering schema number base text old new tree e why reply true is_tree other gives is is_reply refl) refused

  no_plan : (tree : Ast) (query : Query) (e : PlanFault) (reply : List ℕ) → IsTree 64 base text tree → typed schema old tree ≡ Ok (query, new) → planned query ≡ Err e
      → reply ≡ refusal_text number (refusal_of_planning e) → (answering : Answering) → IsAnswer answering schema number base text old new reply true
  no_plan tree query e reply is_tree is_typed is_refused is_reply answering = record {
    reading = Meaningful tree query;
    is_reading = (is_tree, is_typed);
    reply_is = is_reply ∙ sym (ap (text_by (answering new number query) number) is_refused);
    refused_is = sym (ap (is_err {T = Course} {E = PlanFault}) is_refused);
  }

  -- a query that means something, by what comes of its plan
  pub on_query : (tree : Ast) (query : Query) (result : Result Verdict NoMemory) → IsTree 64 base text tree → typed schema old tree ≡ Ok (query, new)
      → IsWellFormed query → HasMeaning new query → HaveKinds schema query → IfOk result (IsPlanVerdict number query) → IfOk result (IsVerdict schema number base text old new)
  on_query tree query (Ok (Accepted found plan)) is_tree is_typed well meaning kinds that =
      subst (λ q. IsAccepted schema base text old new q plan) (sym that.0)
      (record { tree = tree; is_reading = (is_tree, is_typed); has_plan = that.1; well = well; meaning = meaning; kinds = kinds })
  on_query tree query (Ok (Refused reply)) is_tree is_typed well meaning kinds that = no_plan tree query that.0 reply.items is_tree is_typed that.1 that.2
  on_query tree query (Err e) is_tree is_typed well meaning kinds that = that

pub refused_by_text : (schema : SchemaLists) (number base : ℕ) (text : List ℕ) (texts : List (List ℕ)) (e : SyntaxFault) (why : Refusal) (result : Result Verdict NoMemory) → IsFault 64 base text e
    → why ≡ refusal_of_syntax e → IfOk result (IsRefusal (refusal_text number why)) → IfOk result (IsVerdict schema number base text texts texts)
refused_by_text schema number base text texts e why result is_fault is refused =
    refuses schema number base text texts texts (refusal_text number why) result
    (λ reply is_reply answering. of_text answering schema number base text texts e why reply true is_fault is is_reply refl) refused

-- ---- replies

-- a query that has a plan is answered by what was asked
pub answers_it : (answering : Answering) (schema : SchemaLists) (number base : ℕ) (text : List ℕ) (old new : List (List ℕ)) (query : Query) (plan : Course) (reply : List ℕ) (refused : Bool)
    → IsAccepted schema base text old new query plan → reply ≡ answering new number query → refused ≡ false → IsAnswer answering schema number base text old new reply refused
answers_it answering schema number base text old new query plan reply refused accepted is is_answered = record {
  reading = Meaningful accepted.tree query;
  is_reading = accepted.is_reading;
  reply_is = is ∙ sym (ap (text_by (answering new number query) number) accepted.has_plan.planned_so);
  refused_is = is_answered ∙ sym (ap (is_err {T = Course} {E = PlanFault}) accepted.has_plan.planned_so);
}
