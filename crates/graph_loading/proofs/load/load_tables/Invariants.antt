use Rattle.std.proofs.Common.{◌≡◌, ◌+◌, ◌≤◌, Ok, drop, IfSome, length}
use Rattle.graph_tables.specs.Graph.{empty_graph}
use Rattle.graph_tables.specs.Loading.{IsSound, graph_of, properties_in, tables_in}
use Rattle.graph_loading.specs.Loaded.{most_of_all, tables_from}
use Rattle.graph_loading.specs.Steps.{ReadsFiles}
use Rattle.graph_loading.proofs.ReachFacts.{AreLoaded}
use Rattle.graph_loading.proofs.load.load_tables.Given as goal

abbrev pub invariant-loop-i : goal.invariant-loop-i
invariant-loop-i g l = record {
  store : ReadsFiles g.S.Store.files g.S.Store.faults g.S.Store.misses l.initial.store l.store 1 (length l.tables) (Ok (tt {0}));
  rest : IfSome (g.S.Store.files l.initial.store) (λ files.
      tables_from files (l.i + 1) (drop l.i l.tables) (l.total, graph_of l.loading) ≡ tables_from files 1 l.tables (0, empty_graph));
  before : AreLoaded (g.S.Store.files l.initial.store) l.tables l.i (l.total, graph_of l.loading);
  sound : IsSound l.loading;
  begun : tables_in l.loading ≡ l.i;
  few : l.total ≤ most_of_all;
  properties : properties_in l.loading ≤ l.total + l.i;
}
