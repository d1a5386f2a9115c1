-- What the tables of a seed load as.
use Rattle.std.specs.Prelude.{◌≡◌, ℕ, ◌*◌, ◌≤◌, codes, Result, Ok, Err, IsOk}
use Rattle.graph_gen.specs.Files.{generated_files}
use Rattle.graph_loading.specs.Loaded.{loaded}
use Rattle.graph_tables.specs.Graph.{PropertyGraph}
use Rattle.graph_tables.specs.declared.faults.TableFault.{TableFault}
use Rattle.graph_tables.specs.declared.faults.TableKind.TheVariants as kind

-- the graph of a seed, as its tables are loaded
abbrev pub graph_due : ℕ → ℕ → ℕ → Result PropertyGraph TableFault
graph_due seed vertices edges = loaded (generated_files seed vertices edges) (codes "graph.txt")

-- The tables of a seed load, whatever the numbers.
abbrev pub TablesLoad : Type 0
TablesLoad = (seed vertices edges : ℕ) → 1 ≤ vertices → vertices ≤ 200000 → edges ≤ 8 * vertices → IsOk (graph_due seed vertices edges)

-- The graph is the due one; memory alone may be wanting.
abbrev pub Loads : Result PropertyGraph TableFault → Result PropertyGraph TableFault → Type 0
Loads (Ok graph) due = due ≡ Ok graph
Loads (Err e) due = e.kind ≡ kind.NoMemory
