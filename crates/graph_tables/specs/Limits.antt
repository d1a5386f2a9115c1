-- How many elements and property cells a graph may have.
use Rattle.std.specs.Prelude.{ℕ}
use Rattle.adfs_base.specs.declared.limits.TheConstants.{EDGES, PROPERTY_CELLS, VERTICES}

abbrev pub most_vertices : ℕ
most_vertices = VERTICES

abbrev pub most_edges : ℕ
most_edges = EDGES

abbrev pub most_cells : ℕ
most_cells = PROPERTY_CELLS
