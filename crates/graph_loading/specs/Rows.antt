-- What the records of a table give.
use Rattle.std.specs.Prelude.{ℕ, ◌≤◌, ◌≡◌, ◌+◌, ◌==◌, not, nat_le, nat_lt, if◌then◌else◌, ℤ, List, [], ◌∷◌, ◌++◌, length, drop, slice_index_or, is_some, Option, Some, None, Result, Ok, Err}
use Rattle.adfs_base.specs.declared.value.Value.{Value}
use Rattle.value_text.specs.Texts.{Kept}
use Rattle.value_text.specs.Valid.{IsValid}
use Rattle.std.specs.List.{AllByRecursion}
use Rattle.value_text.specs.Cells.{Reading, cell_value}
use Rattle.value_text.specs.Numbers.{int_cell}
use Rattle.value_text.specs.declared.cells.CellFault.{CellFault}
use Rattle.value_text.specs.declared.cells.CellFault.TheVariants as cell_fault
use Rattle.element_store.specs.Columns.{Column, HaveKinds, named}
use Rattle.element_store.specs.Elements.{Element, number_of}
use Rattle.graph_tables.specs.Faults.{◌>>=◌, fault_at}
use Rattle.graph_tables.specs.Graph.{PropertyGraph, cells_made, vertex_of, without_ends}
use Rattle.graph_tables.specs.Limits.{most_cells, most_edges, most_vertices}
use Rattle.graph_tables.specs.Headers.{cell_at, key_columns}
use Rattle.graph_tables.specs.declared.faults.Place.{Place}
use Rattle.graph_tables.specs.declared.faults.Quantity.{Quantity}
use Rattle.graph_tables.specs.declared.faults.Quantity.TheVariants as quantity
use Rattle.graph_tables.specs.declared.faults.TableFault.{TableFault}
use Rattle.graph_tables.specs.declared.faults.TableKind.TheVariants as kind
use Rattle.graph_tables.specs.declared.element_kind.ElementKind.{ElementKind}
use Rattle.graph_tables.specs.declared.element_kind.ElementKind.TheVariants as element

abbrev pub quantity_of : ElementKind → Quantity
quantity_of element.Vertex = quantity.Vertices
quantity_of element.Edge = quantity.Edges

abbrev pub most_of : ElementKind → ℕ
most_of element.Vertex = most_vertices
most_of element.Edge = most_edges

-- there is room for one more element and its cells, and the record has a cell for each column
abbrev pub admitted : ElementKind → Place → ℕ → ℕ → ℕ → ℕ → Result (Unit {0}) TableFault
admitted of at made cells columns width =
    if nat_le (most_of of) made then Err (fault_at at 0 (kind.TooMany (quantity_of of)))
    else if nat_lt most_cells (cells + columns) then Err (fault_at at 0 (kind.TooMany quantity.Cells))
    else if not (width == key_columns of + columns) then Err (fault_at at 0 (kind.BadCell cell_fault.WrongCount))
    else Ok tt

-- a key, or its cell's fault
abbrev pub key_in : Place → ℕ → Result ℤ CellFault → Result ℤ TableFault
key_in at column (Ok key) = Ok key
key_in at column (Err f) = Err (fault_at at column (kind.BadCell f))

-- a key that no element has yet
abbrev pub new_key : Place → List Element → List ℕ → Result ℤ TableFault
new_key at elements cell =
    key_in at 1 (int_cell cell) >>= λ key.
    if is_some (number_of elements key) then Err (fault_at at 1 kind.DoubleKey) else Ok key

abbrev pub end_found : Place → ℕ → Option ℕ → Result ℕ TableFault
end_found at column None = Err (fault_at at column kind.NoSuchVertex)
end_found at column (Some number) = Ok number

-- the number of the vertex whose key stands in a cell
abbrev pub end_at : Place → ℕ → List Element → List ℕ → Result ℕ TableFault
end_at at column vertices cell = key_in at column (int_cell cell) >>= λ key. end_found at column (vertex_of vertices key)

abbrev pub ends_of : Place → List Element → List (List ℕ) → Result (ℕ × ℕ) TableFault
ends_of at vertices cells =
    end_at at 2 vertices (cell_at cells 1) >>= λ source.
    end_at at 3 vertices (cell_at cells 2) >>= λ target.
    Ok (source, target)

-- values, and the texts as they then are
abbrev pub Read : Type 0
Read = List Value × List (List ℕ)

-- Values of the columns' kinds were read, which mean something under texts that grew by a text for each at most.
pub record AreRead (columns : List Column) (old new : List (List ℕ)) (values : List Value) : Type 0 where
  pub kinds : HaveKinds columns values
  pub valid : AllByRecursion (IsValid new) values
  pub kept : Kept old new
  pub room : length new ≤ length old + length columns

-- a cell's value, or its fault in its column
abbrev pub in_column : Place → ℕ → Reading → Result (Value × List (List ℕ)) TableFault
in_column at column (Ok v) = Ok v
in_column at column (Err f) = Err (fault_at at column (kind.BadCell f))

-- the values of the cells from this column on, after those before
unfoldable pub values_from : Place → ℕ → List Column → List (List ℕ) → Read → Result Read TableFault
values_from at column [] cells before = Ok before
values_from at column (c ∷ cs) [] before = Ok before
values_from at column (c ∷ cs) (x ∷ xs) before =
    in_column at column (cell_value c.1 x before.1) >>= λ v.
    values_from at (column + 1) cs xs (before.0 ++ v.0 ∷ [], v.1)

-- the values of a record's properties
abbrev pub values_of : ElementKind → Place → List Column → List (List ℕ) → List (List ℕ) → Result Read TableFault
values_of of at columns cells texts = values_from at (key_columns of + 1) columns (drop (key_columns of) cells) ([], texts)

-- the graph with one more vertex
abbrev pub with_vertex : PropertyGraph → ℤ → ℕ → List Column → Read → PropertyGraph
with_vertex g key label columns read =
    record g { vertices = g.vertices ++ record { key = key; label = label; values = named columns read.0 } ∷ []; texts = read.1 }

-- the graph with one more edge
abbrev pub with_edge : PropertyGraph → ℤ → ℕ → List Column → ℕ × ℕ → Read → PropertyGraph
with_edge g key label columns ends read =
    record g { edges = g.edges ++ record { key = key; label = label; source = ends.0; target = ends.1; values = named columns read.0 } ∷ []; texts = read.1 }

-- the graph with the vertex of a record for which there is room
unfoldable pub vertex_admitted : Place → ℕ → List Column → List (List ℕ) → PropertyGraph → Result PropertyGraph TableFault
vertex_admitted at label columns cells g =
    new_key at g.vertices (cell_at cells 0) >>= λ key.
    values_of element.Vertex at columns cells g.texts >>= λ read.
    Ok (with_vertex g key label columns read)

-- the graph with the edge of a record for which there is room
unfoldable pub edge_admitted : Place → ℕ → List Column → List (List ℕ) → PropertyGraph → Result PropertyGraph TableFault
edge_admitted at label columns cells g =
    new_key at (without_ends g.edges) (cell_at cells 0) >>= λ key.
    ends_of at g.vertices cells >>= λ ends.
    values_of element.Edge at columns cells g.texts >>= λ read.
    Ok (with_edge g key label columns ends read)

-- the graph with the vertex of a record
abbrev pub vertex_record : Place → ℕ → List Column → List (List ℕ) → PropertyGraph → Result PropertyGraph TableFault
vertex_record at label columns cells g =
    admitted element.Vertex at (length g.vertices) (cells_made g) (length columns) (length cells) >>= λ _.
    vertex_admitted at label columns cells g

-- the graph with the edge of a record
abbrev pub edge_record : Place → ℕ → List Column → List (List ℕ) → PropertyGraph → Result PropertyGraph TableFault
edge_record at label columns cells g =
    admitted element.Edge at (length g.edges) (cells_made g) (length columns) (length cells) >>= λ _.
    edge_admitted at label columns cells g

abbrev pub row_record : ElementKind → Place → ℕ → List Column → List (List ℕ) → PropertyGraph → Result PropertyGraph TableFault
row_record element.Vertex at label columns cells g = vertex_record at label columns cells g
row_record element.Edge at label columns cells g = edge_record at label columns cells g

-- the graph with the elements of the records from this number on
unfoldable pub rows_from : ElementKind → ℕ → ℕ → ℕ → List Column → List (List (List ℕ)) → PropertyGraph → Result PropertyGraph TableFault
rows_from of file row label columns [] g = Ok g
rows_from of file row label columns (cells ∷ rest) g =
    row_record of (record { file = file; row = row }) label columns cells g >>= rows_from of file (row + 1) label columns rest
