-- What a run is on, and what it is given.
use Rattle.std.specs.Prelude.{ℕ, List, [], slice_index_or}
use Rattle.adfs_base.specs.Shape.{Extents}
use Rattle.adfs_base.specs.declared.limits.TheConstants.{BROAD_BUDGET, BUFFER_CONTEXTS, CREDITS, MACHINES, WORKERS}
use Rattle.cli_words.specs.Ranges.{IsBetween}
use Rattle.cli_words.specs.declared.options.Options.{Options}
use Rattle.graph_tables.specs.Graph.{PropertyGraph}
use Rattle.graph_tables.specs.Properties.{SchemaLists}
use Rattle.partition.specs.declared.owner.Owner.{Owner}
use Rattle.trace_text.specs.declared.header.Header.{Header}

-- what the words say that a run is on, as the header of its trace would
abbrev pub header_of : Options → Header
header_of options =
    record {
      manifest = slice_index_or options.files 0 [];
      queries = slice_index_or options.files 1 [];
      machines = options.machines;
      workers = options.workers;
      credits = options.credits;
      broad = options.broad;
      buffer = options.buffer;
      part = options.part;
    }

-- Its numbers are within the limits of a run.
pub record IsInLimits (header : Header) : Type 0 where
  pub machines : IsBetween 1 MACHINES header.machines
  pub workers : IsBetween 1 WORKERS header.workers
  pub credits : IsBetween 1 CREDITS header.credits
  pub broad : IsBetween 0 BROAD_BUDGET header.broad
  pub buffer : IsBetween 1 BUFFER_CONTEXTS header.buffer

-- its numbers, for so many stages
abbrev pub shape_of : Header → ℕ → Extents
shape_of header stages =
    record {
      machines = header.machines;
      workers = header.workers;
      stages = stages;
      credit = header.credits;
      broad = header.broad;
      buffer = header.buffer;
    }

-- what a run is given: a graph, who owns its vertices, a query file, and where its queries stand
pub record Job : Type 0 where
  pub graph : PropertyGraph
  pub owner : Owner
  pub file : List ℕ
  pub places : List (ℕ × ℕ)

-- the graph without the texts and the properties that came with it
abbrev pub without_texts : PropertyGraph → PropertyGraph
without_texts graph = record { vertices = graph.vertices; edges = graph.edges; texts = []; vertex_properties = []; edge_properties = [] }

abbrev pub schema_of : PropertyGraph → SchemaLists
schema_of graph = record { vertex = graph.vertex_properties; edge = graph.edge_properties }
