-- The columns of a table, by its header.
use Rattle.std.specs.Prelude.{ℕ, ◌+◌, ◌==◌, ◌&&◌, ◌||◌, Bool, false, if◌then◌else◌, List, [], ◌∷◌, ◌++◌, codes, slice_get, slice_index_or, is_some, Option, Some, None, drop, Result, Ok, Err}
use Rattle.std.specs.Option.{option_map}
use Rattle.std.specs.List.{after_first, before_first}
use Rattle.std.specs.Str.{bytes_eq}
use Rattle.adfs_base.specs.declared.value.Kind.{Kind}
use Rattle.adfs_base.specs.declared.value.Kind.TheVariants as k
use Rattle.element_store.specs.Columns.{Column, column_of}
use Rattle.graph_tables.specs.Faults.{◌>>=◌, fault_at}
use Rattle.graph_tables.specs.Names.{is_name}
use Rattle.graph_tables.specs.Properties.{Property, kind_eq, placed}
use Rattle.graph_tables.specs.declared.faults.Place.{Place}
use Rattle.graph_tables.specs.declared.faults.TableFault.{TableFault}
use Rattle.graph_tables.specs.declared.faults.TableKind.TheVariants as kind
use Rattle.graph_tables.specs.declared.element_kind.ElementKind.{ElementKind}
use Rattle.graph_tables.specs.declared.element_kind.ElementKind.TheVariants as element

-- the cell at a place; where there is none, an empty one
abbrev pub cell_at : List (List ℕ) → ℕ → List ℕ
cell_at cells place = slice_index_or cells place []

abbrev pub is_colon : ℕ → Bool
is_colon b = b == 58

abbrev pub kind_named : List ℕ → Option Kind
kind_named word =
    if bytes_eq word (codes "int") then Some k.Int
    else if bytes_eq word (codes "text") then Some k.Text
    else if bytes_eq word (codes "bool") then Some k.Bool
    else if bytes_eq word (codes "date") then Some k.Date
    else None

-- a name, a colon and the word of a kind
abbrev pub header_cell : List ℕ → Option Property
header_cell cell =
    if is_name (before_first is_colon cell)
    then option_map (λ t. record { name = before_first is_colon cell; type = t }) (kind_named (after_first is_colon cell))
    else None

-- how many columns of a table are no properties
abbrev pub key_columns : ElementKind → ℕ
key_columns element.Vertex = 1
key_columns element.Edge = 3

-- the names of those columns
abbrev pub is_key_name : ElementKind → List ℕ → Bool
is_key_name element.Vertex name = bytes_eq name (codes "id")
is_key_name element.Edge name = bytes_eq name (codes "id") || bytes_eq name (codes "source") || bytes_eq name (codes "target")

abbrev pub is_key_column : List ℕ → Option Property → Bool
is_key_column name None = false
is_key_column name (Some p) = bytes_eq p.name name && kind_eq p.type k.Int

-- a column of whole numbers with this name
abbrev pub key_column : Place → ℕ → List ℕ → Option (List ℕ) → Result (Unit {0}) TableFault
key_column at column name None = Err (fault_at at column kind.BadHeader)
key_column at column name (Some cell) = if is_key_column name (header_cell cell) then Ok tt else Err (fault_at at column kind.BadHeader)

-- the columns that name keys stand first
abbrev pub keys_first : ElementKind → Place → List (List ℕ) → Result (Unit {0}) TableFault
keys_first element.Vertex at cells = key_column at 1 (codes "id") (slice_get cells 0)
keys_first element.Edge at cells =
    key_column at 1 (codes "id") (slice_get cells 0) >>= λ _.
    key_column at 2 (codes "source") (slice_get cells 1) >>= λ _.
    key_column at 3 (codes "target") (slice_get cells 2)

-- the properties of the tables so far and this one, and the columns of this one
pub record Heading : Type 0 where
  pub properties : List Property
  pub columns : List Column

-- No property stands twice in one header, and each has one kind in all.
abbrev pub with_property : Heading → Kind → Option (ℕ × List Property) → Option Heading
with_property h type None = None
with_property h type (Some found) =
    if is_some (column_of h.columns found.0) then None
    else Some (record { properties = found.1; columns = h.columns ++ (found.0, type) ∷ [] })

abbrev pub with_column : ElementKind → Heading → Option Property → Option Heading
with_column of h None = None
with_column of h (Some p) = if is_key_name of p.name then None else with_property h p.type (placed h.properties p)

abbrev pub or_bad : Place → ℕ → Option Heading → Result Heading TableFault
or_bad at column None = Err (fault_at at column kind.BadHeader)
or_bad at column (Some h) = Ok h

-- the columns from this number on
unfoldable pub columns_from : ElementKind → Place → ℕ → List (List ℕ) → Heading → Result Heading TableFault
columns_from of at column [] h = Ok h
columns_from of at column (cell ∷ cells) h = or_bad at column (with_column of h (header_cell cell)) >>= columns_from of at (column + 1) cells

-- the heading of a table, under the properties of the tables before
abbrev pub heading_of : ElementKind → Place → List Property → List (List ℕ) → Result Heading TableFault
heading_of of at properties cells =
    keys_first of at cells >>= λ _. columns_from of at (key_columns of + 1) (drop (key_columns of) cells) (record { properties = properties; columns = [] })
