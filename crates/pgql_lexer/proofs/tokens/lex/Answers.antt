use Rattle.std.proofs.Common.{◌+◌, length, map, refl, rules, arith}
use Rattle.std.proofs.lemmas.Result.{err_from_is_err_and}
use Rattle.pgql_lexer.specs.Tokens.{stretch_of, tokens}
use Rattle.pgql_lexer.proofs.Between.{StandBetween-widen, TokenBetween-TokensBetween}
use Rattle.pgql_lexer.proofs.Steps.{tokens-step, tokens-stop, tokens-start, place-step}
use Rattle.pgql_lexer.proofs.tokens.lex.Goals as goal

pub loop-rest-init : goal.loop-rest-init
loop-rest-init c = record { so_far = tokens-start c.args.base c.args.text.now c.new-found.result.items c.new-found.ensures.items; order = rw c.new-found.ensures.items (omega arith); few = rw c.new-found.ensures.items (omega arith); left = refl }

pub returns-in_err-count : goal.returns-in_err-count
returns-in_err-count c =
    let same = err_from_is_err_and c.from_residual.result c.from_residual.ensures.1 in
    rw (same.1, same.2) (record {
      exact = tokens-stop (tokens c.args.base c.args.text.now) c.loop-rest.found.items c.loop-rest.place c.loop-rest.rest.now c.in_err-count.field-0.0 (search rules) c.loop-rest.invariant.so_far
          (rw c.read_front.ensures.value at c.in_err-count.ensures.err);
      order = tt;
      within = tt;
      few = tt;
    })

pub loop-rest-preserved : goal.loop-rest-preserved
loop-rest-preserved c = record {
  so_far = tokens-step (tokens c.args.base c.args.text.now) c.loop-rest.found.items c.take_front.new.found.items c.loop-rest.place c.in_ok-count.count c.loop-rest.rest.now (search rules) c.in_ok-count.ensures.within.0 c.loop-rest.invariant.so_far
      (rw c.read_front.ensures.value at c.in_ok-count.ensures.ok);
  order = c.in_ok-count.ensures.order c.args.base c.loop-rest.invariant.order;
  few = let so_far = c.loop-rest.invariant.few in let more = c.in_ok-count.ensures.few in omega arith;
  left = place-step c.loop-rest.place c.in_ok-count.count (c.args.base + length c.args.text.now) c.loop-rest.rest.now c.loop-rest.invariant.left c.in_ok-count.ensures.within.1;
}

pub returns-clause-within : goal.returns-clause-within
returns-clause-within c =
    let end = c.args.base + length c.args.text.now in
    TokenBetween-TokensBetween c.args.base end c.loop-rest.found.items
    (StandBetween-widen c.args.base c.loop-rest.place end (map stretch_of c.loop-rest.found.items) (let left = c.loop-rest.invariant.left in omega arith) c.loop-rest.invariant.order)
