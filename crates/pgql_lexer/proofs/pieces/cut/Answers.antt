use Rattle.std.proofs.Common.{length, rules, arith}
use Rattle.pgql_lexer.specs.Pieces.{pieces}
use Rattle.pgql_lexer.proofs.Between.{LiesBetween-StandBetween}
use Rattle.pgql_lexer.proofs.Parts.{IsBegun-start, IsBegun-step, StandBetween-last, end-step, pieces-start, pieces-step}
use Rattle.pgql_lexer.proofs.pieces.cut.Goals as goal

pub loop-rest-preserved : goal.loop-rest-preserved
loop-rest-preserved c = record {
  so_far = pieces-step (pieces c.args.text.now) c.loop-rest.found.items c.read_on.new.found.items c.read_mark-mark.result c.loop-rest.part c.in_ok-part.part c.loop-rest.rest.now (search rules)
      c.loop-rest.invariant.so_far c.read_mark-mark.ensures.value c.read_mark-mark.ensures.within.0 c.read_mark-mark.ensures.within.1 c.read_mark-mark.ensures.end c.in_ok-part.ensures.found c.in_ok-part.ensures.part;
  begun = IsBegun-step c.loop-rest.found.items c.read_on.new.found.items c.read_mark-mark.result.0 c.read_mark-mark.result.1 c.loop-rest.part c.in_ok-part.part c.read_mark-mark.ensures.within.0
      c.loop-rest.invariant.begun c.in_ok-part.ensures.found c.in_ok-part.ensures.part;
  left = end-step c.read_mark-mark.result.0 c.read_mark-mark.result.1 (length c.args.text.now) c.loop-rest.part c.in_ok-part.part c.loop-rest.rest.now c.in_ok-part.ensures.part c.loop-rest.invariant.left c.read_mark-mark.ensures.within.1;
}

pub loop-rest-init : goal.loop-rest-init
loop-rest-init c = record {
  so_far = pieces-start c.args.text.now c.new-found.result.items c.new-found.ensures.items;
  begun = IsBegun-start c.new-found.result.items c.new-found.ensures.items;
  left = omega arith;
}

pub returns-clause-order : goal.returns-clause-order
returns-clause-order c =
    StandBetween-last (length c.args.text.now) c.loop-rest.found.items c.keep.new.found.items c.loop-rest.part c.loop-rest.invariant.begun (let left = c.loop-rest.invariant.left in omega arith) (search rules)

pub returns-clause-within : goal.returns-clause-within
returns-clause-within c =
    LiesBetween-StandBetween 0 (length c.args.text.now) c.keep.new.found.items
    (StandBetween-last (length c.args.text.now) c.loop-rest.found.items c.keep.new.found.items c.loop-rest.part c.loop-rest.invariant.begun (let left = c.loop-rest.invariant.left in omega arith) (search rules))
