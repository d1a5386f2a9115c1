use Rattle.std.proofs.Common.{ap, arith, length, []}
use Rattle.std.proofs.lemmas.Result.{err_from_is_err_and}
use Rattle.graph_tables.specs.Manifest.{tables_of_lines}
use Rattle.graph_tables.proofs.ManifestFacts.{lines_done, lines_failed, lines_kept}
use Rattle.graph_tables.proofs.manifest.take_lines.Goals as goal

pub returns-in_err-take_line-clause-tables : goal.returns-in_err-take_line-clause-tables
returns-in_err-take_line-clause-tables c =
    let p = err_from_is_err_and c.from_residual.result c.from_residual.ensures.1 in
    rw (p.1, p.2) (lines_failed c.lines.number c.lines.lines c.next.new.self c.in-Some.line.now c.lines.tables.items (tables_of_lines 2 c.args.lines.now []) c.in-Some.ensures.line c.lines.invariant.rest
    c.in_err-take_line.field-0.0 c.in_err-take_line.ensures.gives)

pub lines-preserved : goal.lines-preserved
lines-preserved c = record {
  rest = lines_kept c.lines.number c.lines.lines c.next.new.self c.in-Some.line.now c.lines.tables.items (tables_of_lines 2 c.args.lines.now []) c.in-Some.ensures.line c.lines.invariant.rest
      c.take_line.new.tables.items c.in_ok-take_line.ensures.gives;
  few = c.in_ok-take_line.ensures.few;
  short = omega (arith, ap length c.in-Some.ensures.line, c.lines.invariant.short);
}

pub returns-clause-tables : goal.returns-clause-tables
returns-clause-tables c = lines_done c.lines.number c.lines.lines c.lines.tables.items (tables_of_lines 2 c.args.lines.now []) c.in_default.ensures.line c.lines.invariant.rest
