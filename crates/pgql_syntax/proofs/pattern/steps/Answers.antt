use Rattle.std.proofs.Common.{◌≡◌, ◌≤◌, length, suc, sym, ◌∙◌, arith, true, false}
use Rattle.std.proofs.lemmas.Result.{err_from_is_err_and}
use Rattle.pgql_lexemes.specs.Lists.{begins_with}
use Rattle.pgql_syntax.specs.Patterns.{read_step, begins_edge}
use Rattle.pgql_syntax.proofs.Many.{loop_ends, loop_goes, loop_fails}
use Rattle.pgql_syntax.proofs.Paths.{step_takes}
use Rattle.pgql_syntax.proofs.pattern.steps.Goals as goal

pub returns-in_err-x : goal.returns-in_err-x
returns-in_err-x c =
    let way = c.steps.invariant in
    let seen : begins_with begins_edge c.steps.input ≡ true = sym c.sees_edge.ensures ∙ c.steps-test.true in
    let p = err_from_is_err_and c.from_residual.result c.from_residual.ensures.1 in
    rw (p.1, p.2) (loop_fails read_step begins_edge step_takes _ way.0 c.steps.found c.steps.input c.step.new.input c.in_err-x.field-0.0 way.2 way.1 seen c.in_err-x.ensures)

pub steps-smaller : goal.steps-smaller
steps-smaller c =
    let lt : suc (length c.step.new.input) ≤ length c.steps.input = step_takes c.steps.input c.in_ok-x.x c.step.new.input c.in_ok-x.ensures in
    omega arith

pub steps-preserved : goal.steps-preserved
steps-preserved c =
    let way = c.steps.invariant in
    let seen : begins_with begins_edge c.steps.input ≡ true = sym c.sees_edge.ensures ∙ c.steps-test.true in
    let on = loop_goes read_step begins_edge step_takes way.0 c.steps.found c.steps.input c.step.new.input c.in_ok-x.x way.1 seen c.in_ok-x.ensures in
    rw c.in_ok-push.ensures.ok (on.0, on.1, way.2 ∙ on.2)

pub returns : goal.returns
returns c =
    let way = c.steps.invariant in
    let none : begins_with begins_edge c.steps.input ≡ false = sym c.sees_edge.ensures ∙ c.steps-test.false in
    way.2 ∙ loop_ends read_step begins_edge step_takes way.0 c.steps.found c.steps.input none
