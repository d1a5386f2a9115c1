-- The graph that the files of a store say, or the first fault in order of manifest line, record and column.
use Rattle.std.specs.Prelude.{ℕ, ◌+◌, nat_lt, if◌then◌else◌, List, [], ◌∷◌, length, drop, slice_index_or, Option, Some, None, Result, Ok, Err}
use Rattle.adfs_base.specs.Files.{Files, file_of}
use Rattle.adfs_base.specs.declared.limits.TheConstants.{FILE_BYTES, TABLE_BYTES}
use Rattle.csv_records.specs.Table.{records_of}
use Rattle.element_store.specs.Columns.{Column}
use Rattle.value_text.specs.Texts.{number_of, with_text}
use Rattle.graph_tables.specs.Faults.{◌>>=◌, fault_of}
use Rattle.graph_tables.specs.Graph.{PropertyGraph, empty_graph}
use Rattle.graph_tables.specs.Headers.{heading_of}
use Rattle.graph_tables.specs.Manifest.{manifest_of}
use Rattle.graph_loading.specs.Rows.{rows_from}
use Rattle.graph_tables.specs.declared.faults.Place.{Place}
use Rattle.graph_tables.specs.declared.faults.Quantity.TheVariants as quantity
use Rattle.graph_tables.specs.declared.faults.TableFault.{TableFault}
use Rattle.graph_tables.specs.declared.faults.TableKind.TheVariants as kind
use Rattle.graph_tables.specs.declared.element_kind.ElementKind.{ElementKind}
use Rattle.graph_tables.specs.declared.element_kind.ElementKind.TheVariants as element
use Rattle.graph_tables.specs.declared.manifest.TableLine.{TableLine}

abbrev pub most_of_file : ℕ
most_of_file = FILE_BYTES

abbrev pub most_of_all : ℕ
most_of_all = TABLE_BYTES

-- the bytes of a file, unless it is too long
abbrev pub file_bytes : ℕ → Option (List ℕ) → Result (List ℕ) TableFault
file_bytes file None = Err (fault_of file kind.Missing)
file_bytes file (Some bytes) = if nat_lt most_of_file (length bytes) then Err (fault_of file kind.TooLong) else Ok bytes

-- how many bytes the tables so far have, this one included
abbrev pub added_up : ℕ → ℕ → List ℕ → Result ℕ TableFault
added_up file total bytes =
    if nat_lt most_of_all (total + length bytes) then Err (fault_of file (kind.TooMany quantity.TotalBytes))
    else Ok (total + length bytes)

-- the cells of a table's header; of a table without records it has none
abbrev pub header_of : List (List (List ℕ)) → List (List ℕ)
header_of records = slice_index_or records 0 []

-- a table of vertices that begins: its columns, and the graph with its label and its properties
abbrev pub vertices_begun : Place → List ℕ → List (List ℕ) → PropertyGraph → Result (List Column × PropertyGraph) TableFault
vertices_begun at label cells g =
    heading_of element.Vertex at g.vertex_properties cells >>= λ h.
    Ok (h.columns, record g { texts = with_text g.texts label; vertex_properties = h.properties })

-- a table of edges that begins
abbrev pub edges_begun : Place → List ℕ → List (List ℕ) → PropertyGraph → Result (List Column × PropertyGraph) TableFault
edges_begun at label cells g =
    heading_of element.Edge at g.edge_properties cells >>= λ h.
    Ok (h.columns, record g { texts = with_text g.texts label; edge_properties = h.properties })

abbrev pub begun_of : ElementKind → Place → List ℕ → List (List ℕ) → PropertyGraph → Result (List Column × PropertyGraph) TableFault
begun_of element.Vertex at label cells g = vertices_begun at label cells g
begun_of element.Edge at label cells g = edges_begun at label cells g

abbrev pub begun : Place → TableLine → List (List ℕ) → PropertyGraph → Result (List Column × PropertyGraph) TableFault
begun at table cells g = begun_of table.of at table.label cells g

-- the graph with the elements of a table's records
abbrev pub table_records : ℕ → TableLine → List (List (List ℕ)) → PropertyGraph → Result PropertyGraph TableFault
table_records file table records g =
    begun (record { file = file; row = 1 }) table (header_of records) g >>= λ table_begun.
    rows_from table.of file 2 (number_of g.texts table.label) table_begun.0 (drop 1 records) table_begun.1

-- the bytes so far and the graph, with those of a table
unfoldable pub with_table : Files → ℕ → TableLine → ℕ × PropertyGraph → Result (ℕ × PropertyGraph) TableFault
with_table files file table before =
    file_bytes file (file_of table.file files) >>= λ bytes.
    added_up file before.0 bytes >>= λ total.
    table_records file table (records_of bytes) before.1 >>= λ g.
    Ok (total, g)

-- those with the tables from this number on
unfoldable pub tables_from : Files → ℕ → List TableLine → ℕ × PropertyGraph → Result (ℕ × PropertyGraph) TableFault
tables_from files file [] before = Ok before
tables_from files file (table ∷ rest) before = with_table files file table before >>= tables_from files (file + 1) rest

-- the tables that a manifest names
abbrev pub tables_named : Files → List ℕ → Result (List TableLine) TableFault
tables_named files manifest = file_bytes 0 (file_of manifest files) >>= manifest_of

-- the graph of those tables
abbrev pub loaded : Files → List ℕ → Result PropertyGraph TableFault
loaded files manifest =
    tables_named files manifest >>= λ tables.
    tables_from files 1 tables (0, empty_graph) >>= λ all.
    Ok all.1
