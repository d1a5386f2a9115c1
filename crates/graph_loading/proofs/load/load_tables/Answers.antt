use Rattle.std.proofs.Common.{◌≡◌, ◌∙◌, ◌+◌, sym, ap, arith, length, slice_get, Some, refl, rules, IfSome}
use Rattle.std.proofs.lemmas.Option.{slice_get-get_or}
use Rattle.std.proofs.lemmas.Result.{err_from_is_err_and}
use Rattle.graph_tables.specs.Graph.{empty_graph}
use Rattle.graph_tables.specs.Loading.{graph_of}
use Rattle.graph_loading.specs.Loaded.{tables_from}
use Rattle.graph_loading.proofs.LoadFacts.{tables_done, tables_failed, tables_kept}
use Rattle.graph_loading.proofs.ReachFacts.{none_loaded, one_more_loaded, reached, tables_begun}
use Rattle.graph_loading.proofs.StoreFacts.{nothing_read, still_done, then_done, then_failed}
use Rattle.graph_loading.proofs.load.load_tables.Goals as goal

pub loop-i-init : goal.loop-i-init
loop-i-init g c = record {
  store = nothing_read g.S.Store.files g.S.Store.faults g.S.Store.misses c.args.store.now 1 (length c.args.tables.now) (tt {0});
  rest = rw c.requires.empty.graph (tables_begun (g.S.Store.files c.args.store.now) c.args.tables.now);
  before = rw c.requires.empty.graph (none_loaded (g.S.Store.files c.args.store.now) c.args.tables.now);
  sound = c.requires.empty.sound;
  begun = c.requires.empty.tables;
  few = omega arith;
  properties = omega (arith, c.requires.empty.properties);
}

pub returns-in_err-total-clause-gives : goal.returns-in_err-total-clause-gives
returns-in_err-total-clause-gives g c =
    let p = err_from_is_err_and c.from_residual.result c.from_residual.ensures.1 in
    let there : slice_get c.args.tables.now c.loop-i.i ≡ Some c.index-tables-i.result = slice_get-get_or c.args.tables.now c.loop-i.i c.index-tables-i.result (omega (arith, c.loop-i-test.true)) ∙ ap Some (sym c.index-tables-i.is) in
    let told = rw c.loop-i.invariant.store.kept at c.in_err-total.ensures.gives in
    rw (p.1, p.2) (tables_failed (g.S.Store.files c.args.store.now) c.args.tables.now c.loop-i.i c.loop-i.total (graph_of c.loop-i.loading) c.index-tables-i.result
    (λ files. tables_from files 1 c.args.tables.now (0, empty_graph)) there c.loop-i.invariant.rest c.in_err-total.field-0.0 told)

pub returns-in_err-total-clause-store : goal.returns-in_err-total-clause-store
returns-in_err-total-clause-store g c =
    let p = err_from_is_err_and c.from_residual.result c.from_residual.ensures.1 in
    rw (p.1, p.2) (then_failed g.S.Store.files g.S.Store.faults g.S.Store.misses c.args.store.now c.loop-i.store c.load_table.new.store 1 (length c.args.tables.now) (c.loop-i.i + 1) (c.loop-i.i + 1) 1 (length c.args.tables.now) (tt {0})
    c.in_err-total.field-0.0 (omega arith) (omega (arith, c.loop-i-test.true)) c.loop-i.invariant.store c.in_err-total.ensures.store)

pub returns-in_err-total-clause-reached : goal.returns-in_err-total-clause-reached
returns-in_err-total-clause-reached g c =
    let p = err_from_is_err_and c.from_residual.result c.from_residual.ensures.1 in
    rw (p.1, p.2) (λ is.
    let at = c.in_err-total.ensures.store.place is in
    let here : c.in_err-total.field-0.0.file ≡ c.loop-i.i + 1 = omega (arith, at.1, at.2) in
    rw here (reached (g.S.Store.files c.args.store.now) c.args.tables.now c.loop-i.i (c.loop-i.total, graph_of c.loop-i.loading) (omega (arith, c.loop-i-test.true)) c.loop-i.invariant.before))

pub loop-i-preserved : goal.loop-i-preserved
loop-i-preserved g c =
    let there : slice_get c.args.tables.now c.loop-i.i ≡ Some c.index-tables-i.result = slice_get-get_or c.args.tables.now c.loop-i.i c.index-tables-i.result (omega (arith, c.loop-i-test.true)) ∙ ap Some (sym c.index-tables-i.is) in
    let told = rw c.loop-i.invariant.store.kept at c.in_ok-total.ensures.gives in
    let loads = c.in_ok-total.ensures.loads in
    record {
      store = then_done g.S.Store.files g.S.Store.faults g.S.Store.misses c.args.store.now c.loop-i.store c.load_table.new.store 1 (length c.args.tables.now) (c.loop-i.i + 1) (c.loop-i.i + 1) 1 (length c.args.tables.now) (tt {0})
          c.in_ok-total.total (tt {0}) c.loop-i.invariant.store c.in_ok-total.ensures.store;
      rest = tables_kept (g.S.Store.files c.args.store.now) c.args.tables.now c.loop-i.i c.loop-i.total (graph_of c.loop-i.loading) c.index-tables-i.result
          (λ files. tables_from files 1 c.args.tables.now (0, empty_graph)) there c.loop-i.invariant.rest c.in_ok-total.total (graph_of c.load_table.new.loading) told;
      before = one_more_loaded (g.S.Store.files c.args.store.now) c.args.tables.now c.loop-i.i c.index-tables-i.result (c.loop-i.total, graph_of c.loop-i.loading) (c.in_ok-total.total, graph_of c.load_table.new.loading) there
          (omega (arith, c.loop-i-test.true)) c.loop-i.invariant.before told;
      sound = loads.sound;
      begun = loads.tables ∙ omega (arith, c.loop-i.invariant.begun);
      few = loads.within;
      properties = omega (arith, loads.properties, c.loop-i.invariant.properties);
    }

pub returns-clause-gives : goal.returns-clause-gives
returns-clause-gives g c =
    tables_done (g.S.Store.files c.args.store.now) c.args.tables.now c.loop-i.i c.loop-i.total (graph_of c.loop-i.loading)
    (λ files. tables_from files 1 c.args.tables.now (0, empty_graph)) (omega (arith, c.loop-i-test.false)) c.loop-i.invariant.rest

pub returns-clause-store : goal.returns-clause-store
returns-clause-store g c =
    still_done g.S.Store.files g.S.Store.faults g.S.Store.misses c.args.store.now c.loop-i.store 1 (length c.args.tables.now) 1 (length c.args.tables.now) (tt {0}) c.loop-i.total c.loop-i.invariant.store
