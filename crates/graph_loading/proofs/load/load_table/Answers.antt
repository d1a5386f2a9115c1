use Rattle.std.proofs.lemmas.Result.{err_from_is_err_and}
use Rattle.graph_tables.specs.Loading.{graph_of}
use Rattle.graph_loading.proofs.LoadFacts.{file_failed, records_failed, sum_failed, table_loaded}
use Rattle.graph_loading.proofs.load.load_table.Goals as goal

pub returns-in_err-load_file-clause-gives : goal.returns-in_err-load_file-clause-gives
returns-in_err-load_file-clause-gives g c =
    let p = err_from_is_err_and c.from_residual.result c.from_residual.ensures.1 in
    rw (p.1, p.2) (file_failed (g.S.Store.files c.args.store.now) c.args.file c.args.total c.args.table.now (graph_of c.args.loading.now) c.in_err-load_file.field-0.0
    (rw c.text.ensures at c.in_err-load_file.ensures.gives))

pub returns-in_err-sum-clause-gives : goal.returns-in_err-sum-clause-gives
returns-in_err-sum-clause-gives g c =
    let p = err_from_is_err_and c.from_residual-in_err-sum.result c.from_residual-in_err-sum.ensures.1 in
    rw (p.1, p.2) (sum_failed (g.S.Store.files c.args.store.now) c.args.file c.args.total c.args.table.now (graph_of c.args.loading.now) c.load_file.new.bytes.items (rw c.text.ensures at c.in_ok-load_file.ensures.gives)
    c.in_err-sum.field-0.0 (rw c.deref.ensures.value at c.in_err-sum.ensures.sum))

pub returns-in_err-take_table-clause-gives : goal.returns-in_err-take_table-clause-gives
returns-in_err-take_table-clause-gives g c =
    let p = err_from_is_err_and c.from_residual-in_err-take_table.result c.from_residual-in_err-take_table.ensures.1 in
    rw (p.1, p.2) (records_failed (g.S.Store.files c.args.store.now) c.args.file c.args.total c.args.table.now (graph_of c.args.loading.now) c.load_file.new.bytes.items (rw c.text.ensures at c.in_ok-load_file.ensures.gives)
    c.in_ok-sum.sum (rw c.deref.ensures.value at c.in_ok-sum.ensures.sum) c.in_err-take_table.field-0.0 (rw c.deref-2.ensures.value at c.in_err-take_table.ensures.gives))

pub returns-clause-gives : goal.returns-clause-gives
returns-clause-gives g c =
    table_loaded (g.S.Store.files c.args.store.now) c.args.file c.args.total c.args.table.now (graph_of c.args.loading.now) c.load_file.new.bytes.items (rw c.text.ensures at c.in_ok-load_file.ensures.gives)
    c.in_ok-sum.sum (rw c.deref.ensures.value at c.in_ok-sum.ensures.sum) (graph_of c.take_table.new.loading) (rw c.deref-2.ensures.value at c.in_ok-take_table.ensures.gives)
