use Rattle.std.proofs.Common.{sym, ◌∙◌, refl, arith}
use Rattle.std.proofs.lemmas.Result.{err_from_is_err_and}
use Rattle.pgql_expr.specs.Reading.{nested}
use Rattle.pgql_expr.proofs.Chains.{stays, goes_ok, stops_there}
use Rattle.pgql_expr.proofs.expr.Grammar.more.Goals as goal

pub loop-op-init : goal.loop-op-init
loop-op-init g c = record { low = c.requires.left_low; goes = (c.args.self.now.most, omega arith, refl) }

pub returns-in_err-left-clause-reads : goal.returns-in_err-left-clause-reads
returns-in_err-left-clause-reads g c =
    let way = c.loop-op.invariant.goes in
    let p = err_from_is_err_and c.from_residual.result c.from_residual.ensures.1 in
    rw (p.1, p.2) (stops_there c.args.self.now.most (nested c.args.self.now.most) c.args.level c.args.at _ way.0 c.loop-op.left c.in-Some.op c.loop-op.input c.longer.new.input c.in_err-left.field-0.0
    way.2 way.1 (sym c.in-Some.ensures) c.in_err-left.ensures.reads)

pub loop-op-preserved : goal.loop-op-preserved
loop-op-preserved g c =
    let way = c.loop-op.invariant.goes in
    let on = goes_ok c.args.self.now.most (nested c.args.self.now.most) c.args.level c.args.at way.0 c.loop-op.left c.in_ok-left.left c.in-Some.op c.loop-op.input c.longer.new.input
    way.1 c.in_ok-left.ensures.low.0 (sym c.in-Some.ensures) c.in_ok-left.ensures.reads in
    record { low = c.in_ok-left.ensures.low.1; goes = (on.0, on.1, way.2 ∙ on.2) }

pub returns-clause-reads : goal.returns-clause-reads
returns-clause-reads g c =
    let way = c.loop-op.invariant.goes in
    way.2 ∙ stays c.args.self.now.most (nested c.args.self.now.most) c.args.level c.args.at way.0 c.loop-op.left c.loop-op.input (sym c.in_default.ensures)
