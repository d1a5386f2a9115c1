use Rattle.std.proofs.Common.{◌≡◌, ap, arith}
use Rattle.pgql_expr.specs.Reading.{nested}
use Rattle.pgql_expr.proofs.Chains.{deeper_by_one}
use Rattle.pgql_expr.proofs.expr.+nested.Goals as goal

pub returns-then-below-eq0-clause-reads : goal.returns-then-below-eq0-clause-reads
unfolding nested
returns-then-below-eq0-clause-reads t c = let none : c.args.below ≡ 0 = omega arith in ap (λ n. nested n c.args.level c.args.input.now) none

pub returns-clause-reads : goal.returns-clause-reads
unfolding nested
returns-clause-reads t c = rw (deeper_by_one (λ n. nested n c.args.level c.args.input.now) c.args.below (omega arith)) c.level.ensures.reads
