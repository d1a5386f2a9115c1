use Rattle.std.proofs.Common.{◌∙◌, refl, ap, arith, length}
use Rattle.std.specs.Str.Lines.{lines}
use Rattle.std.proofs.lemmas.Result.{err_from_is_err_and}
use Rattle.partition.specs.OwnerFile.{with_lines}
use Rattle.partition.proofs.OwnerFacts.{lines_done, lines_failed, lines_kept}
use Rattle.partition.proofs.owner_file.take_lines.Goals as goal

pub lines-init : goal.lines-init
lines-init c = record {
  rest = rw c.new-lines.ensures.left refl;
  size = c.requires.length;
  short = omega (arith, c.new-lines.ensures.few, c.requires.short);
}

pub returns-in_err-take_line-clause-gives : goal.returns-in_err-take_line-clause-gives
returns-in_err-take_line-clause-gives c =
    let p = err_from_is_err_and c.from_residual.result c.from_residual.ensures.1 in
    rw (p.1, p.2) (lines_failed c.lines.number c.args.machines c.args.graph.now.vertices c.lines.lines c.next.new.self c.in-Some.line.now c.lines.owners
    (with_lines 1 c.args.machines c.args.graph.now.vertices (lines c.args.bytes.now) c.args.owners.now) c.in-Some.ensures.line c.lines.invariant.rest
    c.in_err-take_line.field-0.0 c.in_err-take_line.ensures.gives)

pub lines-preserved : goal.lines-preserved
lines-preserved c = record {
  rest = lines_kept c.lines.number c.args.machines c.args.graph.now.vertices c.lines.lines c.next.new.self c.in-Some.line.now c.lines.owners
      (with_lines 1 c.args.machines c.args.graph.now.vertices (lines c.args.bytes.now) c.args.owners.now) c.in-Some.ensures.line c.lines.invariant.rest
      c.take_line.new.owners c.in_ok-take_line.ensures.gives;
  size = c.in_ok-take_line.ensures.length ∙ c.lines.invariant.size;
  short = omega (arith, ap length c.in-Some.ensures.line, c.lines.invariant.short);
}

pub returns-clause-gives : goal.returns-clause-gives
returns-clause-gives c =
    lines_done c.lines.number c.args.machines c.args.graph.now.vertices c.lines.lines c.lines.owners
    (with_lines 1 c.args.machines c.args.graph.now.vertices (lines c.args.bytes.now) c.args.owners.now) c.in_default.ensures.line c.lines.invariant.rest
