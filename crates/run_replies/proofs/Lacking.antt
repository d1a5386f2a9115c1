-- Which file a load lacks, by the definition of loading: one that it comes to.
use Rattle.std.proofs.Common.{◌≡◌, ℕ, suc, ◌+◌, ◌-◌, ◌<◌, ◌≤◌, length, Bool, true, false, List, [], ◌∷◌, ◌++◌, drop, take, Option, Some, None, Result, Ok, Err, IfErr, IsOk, inl, inr, arith, refl, subst}
use Rattle.std.specs.Prelude.{nat_le, nat_lt, ◌==◌, ◌&&◌, not, is_some, slice_get, if◌then◌else◌, codes, ℤ}
use Rattle.std.specs.List.{list_any}
use Rattle.std.specs.Str.{bytes_eq}
use Rattle.std.specs.Str.Lines.{lines}
use Rattle.adfs_base.specs.Files.{Files, file_of}
use Rattle.element_store.specs.Columns.{Column}
use Rattle.element_store.specs.Elements.{Element, number_of}
use Rattle.graph_loading.specs.Loaded.{added_up, begun, begun_of, file_bytes, header_of, loaded, most_of_all, most_of_file, table_records, tables_from, tables_named, with_table}
use Rattle.graph_loading.specs.Reaching.{IsReached, IsTableReached}
use Rattle.graph_loading.specs.Rows.{Read, admitted, edge_admitted, end_at, end_found, ends_of, in_column, key_in, most_of, new_key, row_record, rows_from, values_from, values_of, vertex_admitted}
use Rattle.graph_tables.specs.Faults.{◌>>=◌, fault_at, fault_of}
use Rattle.graph_tables.specs.Graph.{PropertyGraph, cells_made, empty_graph, vertex_of, without_ends}
use Rattle.graph_tables.specs.Headers.{Heading, cell_at, columns_from, header_cell, heading_of, is_key_column, key_column, key_columns, keys_first, or_bad, with_column}
use Rattle.graph_tables.specs.Limits.{most_cells}
use Rattle.graph_tables.specs.Manifest.{bad_line, is_edge, is_passed_over, manifest_of, most_tables, table_line, tables_below, tables_of_lines, with_line, with_table_line}
use Rattle.graph_tables.specs.Properties.{Property}
use Rattle.graph_tables.specs.declared.element_kind.ElementKind.{ElementKind}
use Rattle.graph_tables.specs.declared.element_kind.ElementKind.TheVariants as element
use Rattle.graph_tables.specs.declared.faults.Place.{Place}
use Rattle.graph_tables.specs.declared.faults.Quantity.TheVariants as quantity
use Rattle.graph_tables.specs.declared.faults.TableFault.{TableFault}
use Rattle.graph_tables.specs.declared.faults.TableKind.{TableKind}
use Rattle.graph_tables.specs.declared.faults.TableKind.TheVariants as kind
use Rattle.graph_tables.specs.declared.manifest.TableLine.{TableLine}
use Rattle.value_text.specs.Cells.{Reading, cell_value}
use Rattle.value_text.specs.Numbers.{int_cell}
use Rattle.value_text.specs.Texts as texts
use Rattle.value_text.specs.declared.cells.CellFault.{CellFault}
use Rattle.value_text.specs.declared.cells.CellFault.TheVariants as cell_fault

-- ---- steps on bytes, which lack no file

-- a fault that is no lack of a file
abbrev IsFound : TableKind → Type 0
IsFound kind.Missing = ⊥
IsFound other = Unit {0}

abbrev LacksNone : {X : Type 0} → Result X TableFault → Type 0
LacksNone result = IfErr result (λ e. IsFound e.kind)

either : {X : Type 0} (test : Bool) (one other : Result X TableFault) → LacksNone one → LacksNone other → LacksNone (if test then one else other)
either true one other first second = first
either false one other first second = second

one_then : {A B : Type 0} (first : Result A TableFault) (next : A → Result B TableFault) → LacksNone first → ((x : A) → LacksNone (next x)) → LacksNone (first >>= next)
one_then (Ok x) next here later = later x
one_then (Err e) next here later = here

-- the header
key_column-lacks : (at : Place) (column : ℕ) (name : List ℕ) (cell : Option (List ℕ)) → LacksNone (key_column at column name cell)
key_column-lacks at column name None = tt
key_column-lacks at column name (Some cell) = either (is_key_column name (header_cell cell)) (Ok tt) (Err (fault_at at column kind.BadHeader)) tt tt

keys_first-lacks : (of : ElementKind) (at : Place) (cells : List (List ℕ)) → LacksNone (keys_first of at cells)
keys_first-lacks element.Vertex at cells = key_column-lacks at 1 (codes "id") (slice_get cells 0)
keys_first-lacks element.Edge at cells =
    one_then (key_column at 1 (codes "id") (slice_get cells 0)) _ (key_column-lacks at 1 (codes "id") (slice_get cells 0))
    (λ _. one_then (key_column at 2 (codes "source") (slice_get cells 1)) _ (key_column-lacks at 2 (codes "source") (slice_get cells 1)) (λ _. key_column-lacks at 3 (codes "target") (slice_get cells 2)))

or_bad-lacks : (at : Place) (column : ℕ) (heading : Option Heading) → LacksNone (or_bad at column heading)
or_bad-lacks at column None = tt
or_bad-lacks at column (Some h) = tt

columns_from-lacks : (of : ElementKind) (at : Place) (column : ℕ) (cells : List (List ℕ)) (h : Heading) → LacksNone (columns_from of at column cells h)
unfolding columns_from
columns_from-lacks of at column [] h = tt
columns_from-lacks of at column (cell ∷ cells) h =
    one_then (or_bad at column (with_column of h (header_cell cell))) (columns_from of at (column + 1) cells) (or_bad-lacks at column (with_column of h (header_cell cell)))
    (λ after. columns_from-lacks of at (column + 1) cells after)

heading_of-lacks : (of : ElementKind) (at : Place) (properties : List Property) (cells : List (List ℕ)) → LacksNone (heading_of of at properties cells)
heading_of-lacks of at properties cells =
    one_then (keys_first of at cells) _ (keys_first-lacks of at cells) (λ _. columns_from-lacks of at (key_columns of + 1) (drop (key_columns of) cells) (record { properties = properties; columns = [] }))

begun_of-lacks : (of : ElementKind) (at : Place) (label : List ℕ) (cells : List (List ℕ)) (g : PropertyGraph) → LacksNone (begun_of of at label cells g)
begun_of-lacks element.Vertex at label cells g = one_then (heading_of element.Vertex at g.vertex_properties cells) _ (heading_of-lacks element.Vertex at g.vertex_properties cells) (λ _. tt)
begun_of-lacks element.Edge at label cells g = one_then (heading_of element.Edge at g.edge_properties cells) _ (heading_of-lacks element.Edge at g.edge_properties cells) (λ _. tt)

-- the records
admitted-lacks : (of : ElementKind) (at : Place) (made cells columns width : ℕ) → LacksNone (admitted of at made cells columns width)
admitted-lacks of at made cells columns width =
    either (nat_le (most_of of) made) _ _ tt (either (nat_lt most_cells (cells + columns)) _ _ tt (either (not (width == key_columns of + columns)) (Err (fault_at at 0 (kind.BadCell cell_fault.WrongCount))) (Ok tt) tt tt))

key_in-lacks : (at : Place) (column : ℕ) (key : Result ℤ CellFault) → LacksNone (key_in at column key)
key_in-lacks at column (Ok key) = tt
key_in-lacks at column (Err f) = tt

new_key-lacks : (at : Place) (elements : List Element) (cell : List ℕ) → LacksNone (new_key at elements cell)
new_key-lacks at elements cell =
    one_then (key_in at 1 (int_cell cell)) _ (key_in-lacks at 1 (int_cell cell)) (λ key. either (is_some (number_of elements key)) (Err (fault_at at 1 kind.DoubleKey)) (Ok key) tt tt)

end_found-lacks : (at : Place) (column : ℕ) (number : Option ℕ) → LacksNone (end_found at column number)
end_found-lacks at column None = tt
end_found-lacks at column (Some number) = tt

end_at-lacks : (at : Place) (column : ℕ) (vertices : List Element) (cell : List ℕ) → LacksNone (end_at at column vertices cell)
end_at-lacks at column vertices cell =
    one_then (key_in at column (int_cell cell)) _ (key_in-lacks at column (int_cell cell)) (λ key. end_found-lacks at column (vertex_of vertices key))

ends_of-lacks : (at : Place) (vertices : List Element) (cells : List (List ℕ)) → LacksNone (ends_of at vertices cells)
ends_of-lacks at vertices cells =
    one_then (end_at at 2 vertices (cell_at cells 1)) _ (end_at-lacks at 2 vertices (cell_at cells 1))
    (λ source. one_then (end_at at 3 vertices (cell_at cells 2)) _ (end_at-lacks at 3 vertices (cell_at cells 2)) (λ target. tt))

in_column-lacks : (at : Place) (column : ℕ) (reading : Reading) → LacksNone (in_column at column reading)
in_column-lacks at column (Ok v) = tt
in_column-lacks at column (Err f) = tt

values_from-lacks : (at : Place) (column : ℕ) (columns : List Column) (cells : List (List ℕ)) (before : Read) → LacksNone (values_from at column columns cells before)
unfolding values_from
values_from-lacks at column [] cells before = tt
values_from-lacks at column (c ∷ cs) [] before = tt
values_from-lacks at column (c ∷ cs) (x ∷ xs) before =
    one_then (in_column at column (cell_value c.1 x before.1)) _ (in_column-lacks at column (cell_value c.1 x before.1)) (λ v. values_from-lacks at (column + 1) cs xs (before.0 ++ v.0 ∷ [], v.1))

vertex_admitted-lacks : (at : Place) (label : ℕ) (columns : List Column) (cells : List (List ℕ)) (g : PropertyGraph) → LacksNone (vertex_admitted at label columns cells g)
unfolding vertex_admitted
vertex_admitted-lacks at label columns cells g =
    one_then (new_key at g.vertices (cell_at cells 0)) _ (new_key-lacks at g.vertices (cell_at cells 0))
    (λ key. one_then (values_of element.Vertex at columns cells g.texts) _ (values_from-lacks at 2 columns (drop 1 cells) ([], g.texts)) (λ read. tt))

edge_admitted-lacks : (at : Place) (label : ℕ) (columns : List Column) (cells : List (List ℕ)) (g : PropertyGraph) → LacksNone (edge_admitted at label columns cells g)
unfolding edge_admitted
edge_admitted-lacks at label columns cells g =
    one_then (new_key at (without_ends g.edges) (cell_at cells 0)) _ (new_key-lacks at (without_ends g.edges) (cell_at cells 0))
    (λ key. one_then (ends_of at g.vertices cells) _ (ends_of-lacks at g.vertices cells)
    (λ ends. one_then (values_of element.Edge at columns cells g.texts) _ (values_from-lacks at 4 columns (drop 3 cells) ([], g.texts)) (λ read. tt)))

row_record-lacks : (of : ElementKind) (at : Place) (label : ℕ) (columns : List Column) (cells : List (List ℕ)) (g : PropertyGraph) → LacksNone (row_record of at label columns cells g)
row_record-lacks element.Vertex at label columns cells g =
    one_then (admitted element.Vertex at (length g.vertices) (cells_made g) (length columns) (length cells)) _
    (admitted-lacks element.Vertex at (length g.vertices) (cells_made g) (length columns) (length cells)) (λ _. vertex_admitted-lacks at label columns cells g)
row_record-lacks element.Edge at label columns cells g =
    one_then (admitted element.Edge at (length g.edges) (cells_made g) (length columns) (length cells)) _
    (admitted-lacks element.Edge at (length g.edges) (cells_made g) (length columns) (length cells)) (λ _. edge_admitted-lacks at label columns cells g)

rows_from-lacks : (of : ElementKind) (file row label : ℕ) (columns : List Column) (records : List (List (List ℕ))) (g : PropertyGraph) → LacksNone (rows_from of file row label columns records g)
unfolding rows_from
rows_from-lacks of file row label columns [] g = tt
rows_from-lacks of file row label columns (cells ∷ rest) g =
    one_then (row_record of (record { file = file; row = row }) label columns cells g) _ (row_record-lacks of (record { file = file; row = row }) label columns cells g)
    (λ after. rows_from-lacks of file (row + 1) label columns rest after)

table_records-lacks : (file : ℕ) (table : TableLine) (records : List (List (List ℕ))) (g : PropertyGraph) → LacksNone (table_records file table records g)
table_records-lacks file table records g =
    one_then (begun (record { file = file; row = 1 }) table (header_of records) g) _ (begun_of-lacks table.of (record { file = file; row = 1 }) table.label (header_of records) g)
    (λ table_begun. rows_from-lacks table.of file 2 (texts.number_of g.texts table.label) table_begun.0 (drop 1 records) table_begun.1)

records_added-lacks : (file total : ℕ) (table : TableLine) (records : List (List (List ℕ))) (g : PropertyGraph) → LacksNone {X = ℕ × PropertyGraph} (table_records file table records g >>= λ after. Ok (total, after))
records_added-lacks file total table records g = one_then (table_records file table records g) _ (table_records-lacks file table records g) (λ after. tt)

-- the manifest
with_table_line-lacks : (number : ℕ) (tables : List TableLine) (line : Option TableLine) → LacksNone (with_table_line number tables line)
with_table_line-lacks number tables None = tt
with_table_line-lacks number tables (Some table) =
    either (not (is_edge table.of) && list_any (λ t. is_edge t.of) tables) _ _ tt (either (nat_le most_tables (length tables)) (Err (fault_of 0 (kind.TooMany quantity.Tables))) (Ok (tables ++ table ∷ [])) tt tt)

tables_of_lines-lacks : (number : ℕ) (rest : List (List ℕ)) (tables : List TableLine) → LacksNone (tables_of_lines number rest tables)
unfolding tables_of_lines
tables_of_lines-lacks number [] tables = tt
tables_of_lines-lacks number (line ∷ rest) tables =
    one_then (with_line number tables line) _ (either (is_passed_over line) (Ok tables) (with_table_line number tables (table_line line)) tt (with_table_line-lacks number tables (table_line line)))
    (λ after. tables_of_lines-lacks (number + 1) rest after)

tables_below-lacks : (all : List (List ℕ)) → LacksNone (tables_below all)
tables_below-lacks [] = tt
tables_below-lacks (line ∷ rest) = either (bytes_eq line (codes "adfs 1")) (tables_of_lines 2 rest []) (Err (bad_line 1)) (tables_of_lines-lacks 2 rest []) tt

-- ---- a file that is lacking

-- The file, if one is lacking, is this one.
abbrev LacksOnly : {X : Type 0} → ℕ → Result X TableFault → Type 0
LacksOnly file result = IfErr result (λ e. e.kind ≡ kind.Missing → e.file ≡ file)

found_only : {X : Type 0} (file : ℕ) (result : Result X TableFault) → LacksNone result → LacksOnly file result
found_only file (Ok x) found = tt
found_only file (Err e) found = λ lacks. absurd (subst IsFound lacks found)

only_then : {A B : Type 0} (file : ℕ) (first : Result A TableFault) (next : A → Result B TableFault) → LacksOnly file first → ((x : A) → LacksOnly file (next x)) → LacksOnly file (first >>= next)
only_then file (Ok x) next here later = later x
only_then file (Err e) next here later = here

file_bytes-lacks : (file : ℕ) (found : Option (List ℕ)) → LacksOnly file (file_bytes file found)
file_bytes-lacks file None = λ lacks. refl
file_bytes-lacks file (Some bytes) =
    found_only file (file_bytes file (Some bytes)) (either (nat_lt most_of_file (length bytes)) (Err (fault_of file kind.TooLong)) (Ok bytes) tt tt)

tables_named-lacks : (files : Files) (manifest : List ℕ) → LacksOnly 0 (tables_named files manifest)
tables_named-lacks files manifest =
    only_then 0 (file_bytes 0 (file_of manifest files)) manifest_of (file_bytes-lacks 0 (file_of manifest files)) (λ bytes. found_only 0 (manifest_of bytes) (tables_below-lacks (lines bytes)))

with_table-lacks : (files : Files) (file : ℕ) (table : TableLine) (before : ℕ × PropertyGraph) → LacksOnly file (with_table files file table before)
unfolding with_table
with_table-lacks files file table before =
    only_then file (file_bytes file (file_of table.file files)) _ (file_bytes-lacks file (file_of table.file files)) (λ bytes. found_only file _
    (one_then (added_up file before.0 bytes) _ (either (nat_lt most_of_all (before.0 + length bytes)) (Err (fault_of file (kind.TooMany quantity.TotalBytes))) (Ok (before.0 + length bytes)) tt tt)
    (λ total. search (records_added-lacks))))

-- The file is one of these tables, counted from a number on, and those before it load.
record IsComeTo (files : Files) (first : ℕ) (tables : List TableLine) (start : ℕ × PropertyGraph) (file : ℕ) : Type 0 where
  above : first ≤ file
  within : file < first + length tables
  before : IsOk (tables_from files first (take (file - first) tables) start)

abbrev LacksOneOf : Files → ℕ → List TableLine → ℕ × PropertyGraph → Result (ℕ × PropertyGraph) TableFault → Type 0
LacksOneOf files first tables start result = IfErr result (λ e. e.kind ≡ kind.Missing → IsComeTo files first tables start e.file)

first_come_to : (files : Files) (first : ℕ) (table : TableLine) (tables : List TableLine) (start : ℕ × PropertyGraph) (file : ℕ) → file ≡ first → IsComeTo files first (table ∷ tables) start file
unfolding tables_from
first_come_to files first table tables start file is =
    let none : file - first ≡ 0 = omega (arith, is) in
    record { above = omega (arith, is); within = omega (arith, is); before = rw none refl }

next_come_to : (files : Files) (first : ℕ) (table : TableLine) (tables : List TableLine) (start after : ℕ × PropertyGraph) (file : ℕ) → with_table files first table start ≡ Ok after
    → IsComeTo files (first + 1) tables after file → IsComeTo files first (table ∷ tables) start file
unfolding tables_from
next_come_to files first table tables start after file loads next =
    let more : file - first ≡ suc (file - (first + 1)) = omega (arith, next.above) in
    record { above = omega (arith, next.above); within = omega (arith, next.within); before = rw (more, loads) next.before }

tables_from-lacks : (files : Files) (first : ℕ) (tables : List TableLine) (start : ℕ × PropertyGraph) → LacksOneOf files first tables start (tables_from files first tables start)
unfolding tables_from
tables_from-lacks files first [] start = tt
tables_from-lacks files first (table ∷ tables) start = by (with_table files first table start) refl (with_table-lacks files first table start) (λ after. tables_from-lacks files (first + 1) tables after)
  where
    later : (after : ℕ × PropertyGraph) (rest : Result (ℕ × PropertyGraph) TableFault) → with_table files first table start ≡ Ok after → LacksOneOf files (first + 1) tables after rest
        → LacksOneOf files first (table ∷ tables) start rest
    later after (Ok x) loads lacks = tt
    later after (Err e) loads lacks = λ missing. next_come_to files first table tables start after e.file loads (lacks missing)

    by : (one : Result (ℕ × PropertyGraph) TableFault) → with_table files first table start ≡ one → LacksOnly first one
        → ((after : ℕ × PropertyGraph) → LacksOneOf files (first + 1) tables after (tables_from files (first + 1) tables after)) → LacksOneOf files first (table ∷ tables) start (one >>= tables_from files (first + 1) tables)
    by (Ok after) is only rest = later after (tables_from files (first + 1) tables after) is (rest after)
    by (Err e) is only rest = λ missing. first_come_to files first table tables start e.file (only missing)

table_reached : (files : Files) (tables : List TableLine) (file : ℕ) → IsComeTo files 1 tables (0, empty_graph) file → IsTableReached files tables file
table_reached files tables file come_to = record { first = come_to.above; last = omega (arith, come_to.within); before = come_to.before }

-- a load of a graph
abbrev LacksReached : Files → List ℕ → Result PropertyGraph TableFault → Type 0
LacksReached files manifest result = IfErr result (λ e. e.kind ≡ kind.Missing → IsReached files manifest e.file)

loaded-lacks : (files : Files) (manifest : List ℕ) → LacksReached files manifest (loaded files manifest)
loaded-lacks files manifest = by (tables_named files manifest) refl (tables_named-lacks files manifest)
  where
    of_tables : (tables : List TableLine) (all : Result (ℕ × PropertyGraph) TableFault) → tables_named files manifest ≡ Ok tables → LacksOneOf files 1 tables (0, empty_graph) all
        → LacksReached files manifest (all >>= λ loaded. Ok loaded.1)
    of_tables tables (Ok all) named lacks = tt
    of_tables tables (Err e) named lacks = λ missing. inr (tables, named, table_reached files tables e.file (lacks missing))

    by : (named : Result (List TableLine) TableFault) → tables_named files manifest ≡ named → LacksOnly 0 named
        → LacksReached files manifest (named >>= λ tables. tables_from files 1 tables (0, empty_graph) >>= λ all. Ok all.1)
    by (Ok tables) is only = of_tables tables (tables_from files 1 tables (0, empty_graph)) is (tables_from-lacks files 1 tables (0, empty_graph))
    by (Err e) is only = λ missing. inl (only missing)

-- The file that a load lacks, by the definition, is one that it comes to.
pub lacking_reached : (files : Files) (manifest : List ℕ) (e : TableFault) → loaded files manifest ≡ Err e → e.kind ≡ kind.Missing → IsReached files manifest e.file
lacking_reached files manifest e is = subst (LacksReached files manifest) is (loaded-lacks files manifest)
