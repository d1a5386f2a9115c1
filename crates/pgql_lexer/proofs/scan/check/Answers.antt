use Rattle.std.proofs.Common.{◌+◌, [], length, refl, rules}
use Rattle.std.proofs.lemmas.Result.{err_from_is_err_and}
use Rattle.pgql_lexer.specs.Tokens.{tokens}
use Rattle.pgql_lexer.proofs.Scanning.{all_passed, stops}
use Rattle.pgql_lexer.proofs.Steps.{tokens-start, tokens-step, place-step}
use Rattle.pgql_lexer.proofs.scan.check.Goals as goal

pub loop-rest-init : goal.loop-rest-init
loop-rest-init c = record { so_far = ([], tokens-start c.args.base c.args.text.now [] refl); left = refl }

pub returns-in_err-count : goal.returns-in_err-count
returns-in_err-count c =
    let same = err_from_is_err_and c.from_residual.result c.from_residual.ensures.1 in
    let way = c.loop-rest.invariant.so_far in
    rw (same.1, same.2) (stops (tokens c.args.base c.args.text.now) way.0 c.loop-rest.place c.loop-rest.rest.now c.in_err-count.field-0.0 (search rules) way.1
    (rw c.read_front.ensures.value at c.in_err-count.ensures.err))

pub loop-rest-preserved : goal.loop-rest-preserved
loop-rest-preserved c =
    let way = c.loop-rest.invariant.so_far in
    let on = (rw c.read_front.ensures.value at c.in_ok-count.ensures.ok) way.0 in
    record {
      so_far = (
        on.0,
        tokens-step (tokens c.args.base c.args.text.now) way.0 on.0 c.loop-rest.place c.in_ok-count.count c.loop-rest.rest.now (search rules) c.in_ok-count.ensures.within.0 way.1 on.1,
      );
      left = place-step c.loop-rest.place c.in_ok-count.count (c.args.base + length c.args.text.now) c.loop-rest.rest.now c.loop-rest.invariant.left c.in_ok-count.ensures.within.1;
    }

pub returns : goal.returns
returns c =
    let way = c.loop-rest.invariant.so_far in
    all_passed (tokens c.args.base c.args.text.now) way.0 c.loop-rest.place c.loop-rest.rest.now (search rules) way.1
