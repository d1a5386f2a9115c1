use Rattle.std.proofs.Common.{◌≡◌, codes, refl, subst}
use Rattle.graph_gen.specs.Files.{files_of, generated_files}
use Rattle.graph_loading.specs.Loaded.{loaded}
use Rattle.graph_tables.specs.Faults.{Loads}
use Rattle.graph_tables.specs.Graph.{PropertyGraph}
use Rattle.generated_graph.specs.Loading.{graph_due}
use Rattle.generated_graph.proofs.LoadFacts.{loads_it}
use Rattle.generated_graph.proofs.making.generated_graph.Goals as goal

pub returns-in-Ok-clause-gives : goal.returns-in-Ok-clause-gives
returns-in-Ok-clause-gives c =
    let same : files_of c.in-Ok.tables ≡ generated_files c.args.seed c.args.vertices c.args.edges = rw (c.in-Ok.ensures.manifest, c.in-Ok.ensures.nodes, c.in-Ok.ensures.links) refl in
    let gives = subst (λ files. Loads (λ (g : PropertyGraph). g) c.load_graph.result (loaded files (codes "graph.txt"))) same c.load_graph.ensures.gives in
    loads_it (graph_due c.args.seed c.args.vertices c.args.edges) (c.tables_load.ensures c.args.seed c.args.vertices c.args.edges c.requires.vertices.0 c.requires.vertices.1 c.requires.edges)
    c.load_graph.result gives c.load_graph.ensures.cause.failed
