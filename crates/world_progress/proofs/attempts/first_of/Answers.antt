use Rattle.std.proofs.Common.{◌≡◌, ◌<◌, ◌≤◌, inl, inr, ap, subst, sym, ◌∙◌, arith, Some, length, get_or}
use Rattle.std.specs.Prelude.{slice_get}
use Rattle.std.proofs.lemmas.Bool.{cases_lt}
use Rattle.std.proofs.lemmas.Option.{get_or_from_slice_get, slice_get_within}
use Rattle.bfs_budget.specs.declared.tries.Attempt.TheVariants as attempt
use Rattle.world_progress.specs.Choice.{Fails}
use Rattle.world_progress.proofs.Tries.{none-of}
use Rattle.world_progress.proofs.attempts.first_of.Goals as goal

pub loop-attempt-preserved : goal.loop-attempt-preserved
loop-attempt-preserved c = λ at x low e. elim (cases_lt at c.loop-attempt.attempt-index) [
  | inl before ↦ c.loop-attempt.invariant at x before e
  | inr late ↦ (let same : c.loop-attempt.attempt-index ≡ at = omega arith in
      subst (Fails c.args.world.now c.args.w) (ap (λ i. get_or c.args.attempts.now i attempt.Hand) same ∙ get_or_from_slice_get c.args.attempts.now at x attempt.Hand e)
      (none-of _ c.event_of-event.result c.is_some.result c.is_some.ensures c.if-is_some.false c.event_of-event.ensures.none))
]

pub returns-clause-none : goal.returns-clause-none
returns-clause-none c = λ at x e.
    let low = slice_get_within c.args.attempts.now at x e in
    let end = c.loop-attempt-test.false in
    c.loop-attempt.invariant at x (omega arith) e
