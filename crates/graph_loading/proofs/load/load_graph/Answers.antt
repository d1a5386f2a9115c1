use Rattle.std.proofs.Common.{◌≡◌, IfSome}
use Rattle.graph_tables.specs.Faults.{FailsAt}
use Rattle.graph_tables.specs.Loading.{graph_of}
use Rattle.graph_tables.specs.Manifest.{most_tables}
use Rattle.graph_tables.specs.declared.faults.TableKind.TheVariants as kind
use Rattle.graph_loading.specs.Loaded.{loaded}
use Rattle.graph_loading.specs.Reaching.{IsReached}
use Rattle.graph_loading.specs.Steps.{LacksAt}
use Rattle.graph_loading.proofs.EndFacts.{end_cause, end_fault, end_gives, end_whole}
use Rattle.graph_loading.proofs.load.load_graph.Goals as goal

pub returns-clause-gives : goal.returns-clause-gives
returns-clause-gives g c =
    end_gives (g.S.Store.files c.args.store.now) (λ files. loaded files c.args.manifest.now) c.load_named-loaded.result (graph_of c.load_named-loaded.new.loading) c.graph_from.result
    c.graph_from.ensures c.load_named-loaded.ensures.gives

pub returns-clause-whole : goal.returns-clause-whole
returns-clause-whole g c =
    end_whole c.load_named-loaded.result c.load_named-loaded.new.loading c.graph_from.result c.graph_from.ensures c.load_named-loaded.ensures.sound

pub returns-clause-cause : goal.returns-clause-cause
returns-clause-cause g c =
    end_cause (g.S.Store.files c.args.store.now) (g.S.Store.faults c.args.store.now) (g.S.Store.faults c.load_named-loaded.new.store) (g.S.Store.misses c.args.store.now)
    (g.S.Store.misses c.load_named-loaded.new.store) c.load_named-loaded.result (graph_of c.load_named-loaded.new.loading) c.graph_from.result c.graph_from.ensures
    c.load_named-loaded.ensures.store.cause

pub returns-clause-place : goal.returns-clause-place
returns-clause-place g c =
    end_fault (FailsAt 0 most_tables) c.load_named-loaded.result (graph_of c.load_named-loaded.new.loading) c.graph_from.result c.graph_from.ensures c.load_named-loaded.ensures.store.place

pub returns-clause-lacking : goal.returns-clause-lacking
returns-clause-lacking g c =
    end_fault (LacksAt 0 most_tables) c.load_named-loaded.result (graph_of c.load_named-loaded.new.loading) c.graph_from.result c.graph_from.ensures c.load_named-loaded.ensures.store.lacking

pub returns-clause-reached : goal.returns-clause-reached
returns-clause-reached g c =
    end_fault (λ e. e.kind ≡ kind.ReadFault → IfSome (g.S.Store.files c.args.store.now) (λ files. IsReached files c.args.manifest.now e.file)) c.load_named-loaded.result
    (graph_of c.load_named-loaded.new.loading) c.graph_from.result c.graph_from.ensures c.load_named-loaded.ensures.reached
