use Rattle.std.proofs.Common.{ap, arith, length}
use Rattle.std.proofs.lemmas.Result.{err_from_is_err_and}
use Rattle.graph_tables.specs.Loading.{graph_of}
use Rattle.graph_loading.proofs.RowLaws.{rows_done, rows_failed, rows_kept}
use Rattle.graph_loading.proofs.SoundFacts.{columns_kept, keeps_both, label_kept}
use Rattle.graph_loading.proofs.rows.take_each.Goals as goal

pub returns-in_err-take_record-clause-gives : goal.returns-in_err-take_record-clause-gives
returns-in_err-take_record-clause-gives c =
    let p = err_from_is_err_and c.from_residual-in_err-take_record.result c.from_residual-in_err-take_record.ensures.1 in
    let took = rw c.if-branch.true at c.in_ok-next.ensures.record_read in
    let label = label_kept c.args.of c.args.loading.now c.records.loading c.records.invariant.keeps in
    let columns = columns_kept c.args.of c.args.loading.now c.records.loading c.records.invariant.keeps in
    rw (p.1, p.2) (rows_failed c.args.of c.args.file c.records.number _ _ c.records.records c.next.new.self _ (graph_of c.records.loading) _ took c.records.invariant.rest c.in_err-take_record.field-0.0
    (rw (label, columns) at c.in_err-take_record.ensures.gives))

pub records-preserved : goal.records-preserved
records-preserved c =
    let took = rw c.if-branch.true at c.in_ok-next.ensures.record_read in
    let label = label_kept c.args.of c.args.loading.now c.records.loading c.records.invariant.keeps in
    let columns = columns_kept c.args.of c.args.loading.now c.records.loading c.records.invariant.keeps in
    record {
      rest = rows_kept c.args.of c.args.file c.records.number _ _ c.records.records c.next.new.self _ (graph_of c.records.loading) _ took c.records.invariant.rest (graph_of c.take_record.new.loading)
          (rw (label, columns) at c.in_ok-take_record.ensures.gives);
      sound = c.in_ok-take_record.ensures.sound;
      keeps = keeps_both c.args.loading.now c.records.loading c.take_record.new.loading c.records.invariant.keeps c.in_ok-take_record.ensures.keeps;
      short = omega (arith, ap length took, c.records.invariant.short);
    }

pub returns-clause-gives : goal.returns-clause-gives
returns-clause-gives c =
    let none = rw c.if-branch.false at c.in_ok-next.ensures.record_read in
    rows_done c.args.of c.args.file c.records.number _ _ c.records.records (graph_of c.records.loading) _ none c.records.invariant.rest
