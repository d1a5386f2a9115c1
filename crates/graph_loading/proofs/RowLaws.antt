-- What a record gives, step by step.
use Rattle.std.proofs.Common.{◌≡◌, ◌∙◌, sym, ap, refl, arith, ◌<◌, ◌≤◌, ◌+◌, ℕ, zero, suc, ℤ, Bool, true, false, cond, List, [], ◌∷◌, ◌++◌, length, drop, take, slice_get, is_some, Option, Some, None, Result, Ok, Err, add-one}
use Rattle.std.proofs.lemmas.List.{drop_all}
use Rattle.adfs_base.specs.declared.value.Kind.{Kind}
use Rattle.adfs_base.specs.declared.value.Kind.TheVariants as k
use Rattle.adfs_base.specs.declared.value.Value.{Value}
use Rattle.adfs_base.specs.declared.value.Value.TheVariants as value
use Rattle.value_text.specs.Cells.{Reading, as_bool, as_date, as_int, as_text, bool_cell, cell_value}
use Rattle.value_text.specs.Dates.{date_cell}
use Rattle.value_text.specs.Numbers.{int_cell}
use Rattle.value_text.specs.declared.cells.CellFault.{CellFault}
use Rattle.value_text.specs.declared.cells.CellFault.TheVariants as cell_fault
use Rattle.value_text.specs.Texts.{number_of as number_of_text, with_text}
use Rattle.std.specs.Str.{is_utf8}
use Rattle.element_store.proofs.RowFacts.{take_more}
use Rattle.element_store.specs.Columns.{Column, HaveKinds}
use Rattle.element_store.specs.Elements.{Element, number_of}
use Rattle.element_store.specs.Words.{HasKind}
use Rattle.graph_tables.specs.Faults.{◌>>=◌, GivesFault, fault_at}
use Rattle.graph_tables.specs.Headers.{cell_at}
use Rattle.graph_tables.specs.Graph.{PropertyGraph, cells_made, vertex_of, without_ends}
use Rattle.graph_loading.specs.Rows.{Read, admitted, edge_admitted, edge_record, end_at, end_found, ends_of, in_column, key_in, new_key, row_record, rows_from, values_from, values_of, vertex_admitted, with_edge, with_vertex}
use Rattle.graph_tables.specs.declared.faults.Place.{Place}
use Rattle.graph_tables.specs.declared.faults.TableFault.{TableFault}
use Rattle.graph_tables.specs.declared.faults.TableKind.TheVariants as kind
use Rattle.graph_tables.specs.declared.element_kind.ElementKind.{ElementKind}
use Rattle.graph_tables.specs.declared.element_kind.ElementKind.TheVariants as element
use Rattle.graph_tables.proofs.RecordFacts.{drop_at, drop_cell}
use Rattle.graph_tables.proofs.FaultFacts.{first_failed, later_failed}

-- a key that an element has
pub double_key : (at : Place) (elements : List Element) (cell : List ℕ) (key : ℤ) → key_in at 1 (int_cell cell) ≡ Ok key → is_some (number_of elements key) ≡ true
    → new_key at elements cell ≡ Err (fault_at at 1 kind.DoubleKey)
double_key at elements cell key is has = rw (is, has) refl

-- a key that none has
pub fresh_key : (at : Place) (elements : List Element) (cell : List ℕ) (key : ℤ) → key_in at 1 (int_cell cell) ≡ Ok key → is_some (number_of elements key) ≡ false
    → new_key at elements cell ≡ Ok key
fresh_key at elements cell key is has = rw (is, has) refl

-- the end that a key names
pub end_known : (at : Place) (column : ℕ) (vertices : List Element) (cell : List ℕ) (key : ℤ) (found : Option ℕ) → key_in at column (int_cell cell) ≡ Ok key → vertex_of vertices key ≡ found
    → end_at at column vertices cell ≡ end_found at column found
end_known at column vertices cell key found is there = rw (is, there) refl

-- the value of a cell is of its column's kind, or null
int_kind : (texts : List (List ℕ)) (r : Result ℤ CellFault) (v : Value) (left : List (List ℕ)) → as_int texts r ≡ Ok (v, left) → HasKind k.Int v
int_kind texts (Ok n) v left e = let pair : ◌≡◌ {A = Value × List (List ℕ)} (value.Int n, texts) (v, left) = cc e in rw (← (ap (λ (p : Value × List (List ℕ)). p.0) pair)) refl
int_kind texts (Err f) v left e = cc e

bool_kind : (texts : List (List ℕ)) (r : Result Bool CellFault) (v : Value) (left : List (List ℕ)) → as_bool texts r ≡ Ok (v, left) → HasKind k.Bool v
bool_kind texts (Ok b) v left e = let pair : ◌≡◌ {A = Value × List (List ℕ)} (value.Bool b, texts) (v, left) = cc e in rw (← (ap (λ (p : Value × List (List ℕ)). p.0) pair)) refl
bool_kind texts (Err f) v left e = cc e

date_kind : (texts : List (List ℕ)) (r : Option ℤ) (v : Value) (left : List (List ℕ)) → as_date texts r ≡ Ok (v, left) → HasKind k.Date v
date_kind texts (Some day) v left e = let pair : ◌≡◌ {A = Value × List (List ℕ)} (value.Date day, texts) (v, left) = cc e in rw (← (ap (λ (p : Value × List (List ℕ)). p.0) pair)) refl
date_kind texts None v left e = cc e

text_kind : (texts : List (List ℕ)) (cell : List ℕ) (v : Value) (left : List (List ℕ)) → as_text texts cell ≡ Ok (v, left) → HasKind k.Text v
text_kind texts cell v left e = by (is_utf8 cell) e
  where
    by : (b : Bool) → cond {A = Reading} b (Ok (value.Text (number_of_text texts cell), with_text texts cell)) (Err cell_fault.BadText) ≡ Ok (v, left) → HasKind k.Text v
    by true f = let pair : ◌≡◌ {A = Value × List (List ℕ)} (value.Text (number_of_text texts cell), with_text texts cell) (v, left) = cc f in rw (← (ap (λ (p : Value × List (List ℕ)). p.0) pair)) refl
    by false f = cc f

pub cell_kind : (type : Kind) (cell : List ℕ) (texts : List (List ℕ)) (v : Value) (left : List (List ℕ)) → cell_value type cell texts ≡ Ok (v, left) → HasKind type v
cell_kind type [] texts v left e = let pair : ◌≡◌ {A = Value × List (List ℕ)} (value.Null, texts) (v, left) = cc e in rw (← (ap (λ (p : Value × List (List ℕ)). p.0) pair)) tt
cell_kind k.Int (b ∷ rest) texts v left e = int_kind texts (int_cell (b ∷ rest)) v left e
cell_kind k.Text (b ∷ rest) texts v left e = text_kind texts (b ∷ rest) v left e
cell_kind k.Bool (b ∷ rest) texts v left e = bool_kind texts (bool_cell (b ∷ rest)) v left e
cell_kind k.Date (b ∷ rest) texts v left e = date_kind texts (date_cell (b ∷ rest)) v left e

-- the values from a column on: the one there, and then the others
module _ (at : Place) (n keys i : ℕ) (columns : List Column) (cells : List (List ℕ)) (c : Column) (before : Read) (start : Result Read TableFault)
    (e : slice_get columns i ≡ Some c) (inside : keys + i < length cells) (was : values_from at n (drop i columns) (drop (keys + i) cells) before ≡ start) where
  values_begun : (in_column at n (cell_value c.1 (cell_at cells (keys + i)) before.1) >>= λ v. values_from at (n + 1) (drop (i + 1) columns) (drop (keys + i + 1) cells) (before.0 ++ v.0 ∷ [], v.1)) ≡ start
  unfolding values_from
  values_begun = rw (drop_at columns i c e, drop_cell cells (keys + i) inside) at was

  pub values_kept : (v : Value × List (List ℕ)) → in_column at n (cell_value c.1 (cell_at cells (keys + i)) before.1) ≡ Ok v
      → values_from at (n + 1) (drop (i + 1) columns) (drop (keys + (i + 1)) cells) (before.0 ++ v.0 ∷ [], v.1) ≡ start
  values_kept v is = let place : keys + (i + 1) ≡ keys + i + 1 = omega arith in rw place (rw is at values_begun)

  pub values_failed : (f : TableFault) → GivesFault f f.kind (in_column at n (cell_value c.1 (cell_at cells (keys + i)) before.1)) → GivesFault f f.kind start
  values_failed f h = later_failed f (in_column at n (cell_value c.1 (cell_at cells (keys + i)) before.1)) start h (λ w. sym values_begun ∙ rw w refl)

pub values_done : (at : Place) (n i : ℕ) (columns : List Column) (cells : List (List ℕ)) (before : Read) (start : Result Read TableFault) → length columns ≤ i
    → values_from at n (drop i columns) cells before ≡ start → start ≡ Ok before
unfolding values_from
values_done at n i columns cells before start past was = sym was ∙ rw (drop_all i columns past) refl

module _ (at : Place) (label : ℕ) (columns : List Column) (cells : List (List ℕ)) (g : PropertyGraph) where
  pub vertex_key_failed : (f : TableFault) → GivesFault f f.kind (new_key at g.vertices (cell_at cells 0)) → GivesFault f f.kind (vertex_admitted at label columns cells g)
  unfolding vertex_admitted
  vertex_key_failed f h = first_failed f (new_key at g.vertices (cell_at cells 0)) _ h

  pub vertex_values_failed : (key : ℤ) (f : TableFault) → new_key at g.vertices (cell_at cells 0) ≡ Ok key → GivesFault f f.kind (values_of element.Vertex at columns cells g.texts)
      → GivesFault f f.kind (vertex_admitted at label columns cells g)
  unfolding vertex_admitted
  vertex_values_failed key f is h = rw is (first_failed f (values_of element.Vertex at columns cells g.texts) _ h)

  pub vertex_added : (key : ℤ) (read : Read) → new_key at g.vertices (cell_at cells 0) ≡ Ok key → values_of element.Vertex at columns cells g.texts ≡ Ok read
      → vertex_admitted at label columns cells g ≡ Ok (with_vertex g key label columns read)
  unfolding vertex_admitted
  vertex_added key read is values = rw (is, values) refl

  pub edge_key_failed : (f : TableFault) → GivesFault f f.kind (new_key at (without_ends g.edges) (cell_at cells 0)) → GivesFault f f.kind (edge_admitted at label columns cells g)
  unfolding edge_admitted
  edge_key_failed f h = first_failed f (new_key at (without_ends g.edges) (cell_at cells 0)) _ h

  pub edge_ends_failed : (key : ℤ) (f : TableFault) → new_key at (without_ends g.edges) (cell_at cells 0) ≡ Ok key → GivesFault f f.kind (ends_of at g.vertices cells)
      → GivesFault f f.kind (edge_admitted at label columns cells g)
  unfolding edge_admitted
  edge_ends_failed key f is h = rw is (first_failed f (ends_of at g.vertices cells) _ h)

  pub edge_values_failed : (key : ℤ) (ends : ℕ × ℕ) (f : TableFault) → new_key at (without_ends g.edges) (cell_at cells 0) ≡ Ok key → ends_of at g.vertices cells ≡ Ok ends
      → GivesFault f f.kind (values_of element.Edge at columns cells g.texts) → GivesFault f f.kind (edge_admitted at label columns cells g)
  unfolding edge_admitted
  edge_values_failed key ends f is found h = rw (is, found) (first_failed f (values_of element.Edge at columns cells g.texts) _ h)

  pub edge_added : (key : ℤ) (ends : ℕ × ℕ) (read : Read) → new_key at (without_ends g.edges) (cell_at cells 0) ≡ Ok key → ends_of at g.vertices cells ≡ Ok ends
      → values_of element.Edge at columns cells g.texts ≡ Ok read → edge_admitted at label columns cells g ≡ Ok (with_edge g key label columns ends read)
  unfolding edge_admitted
  edge_added key ends read is found values = rw (is, found, values) refl

-- one record of many
module _ (of : ElementKind) (file n label : ℕ) (columns : List Column) (records rest : List (List (List ℕ))) (row : List (List ℕ)) (g : PropertyGraph) (start : Result PropertyGraph TableFault)
    (took : records ≡ row ∷ rest) (was : rows_from of file n label columns records g ≡ start) where
  rows_begun : (row_record of (record { file = file; row = n }) label columns row g >>= rows_from of file (n + 1) label columns rest) ≡ start
  unfolding rows_from
  rows_begun = rw took at was

  pub rows_kept : (g2 : PropertyGraph) → row_record of (record { file = file; row = n }) label columns row g ≡ Ok g2 → rows_from of file (n + 1) label columns rest g2 ≡ start
  rows_kept g2 is = rw is at rows_begun

  pub rows_failed : (f : TableFault) → GivesFault f f.kind (row_record of (record { file = file; row = n }) label columns row g) → GivesFault f f.kind start
  rows_failed f h = later_failed f (row_record of (record { file = file; row = n }) label columns row g) start h (λ w. sym rows_begun ∙ rw w refl)

pub rows_done : (of : ElementKind) (file n label : ℕ) (columns : List Column) (records : List (List (List ℕ))) (g : PropertyGraph) (start : Result PropertyGraph TableFault) → records ≡ []
    → rows_from of file n label columns records g ≡ start → start ≡ Ok g
unfolding rows_from
rows_done of file n label columns records g start none was = sym was ∙ rw none refl

-- a record of an edge, by whether there is room for it
module _ (at : Place) (label : ℕ) (columns : List Column) (cells : List (List ℕ)) (g : PropertyGraph) where
  pub edge_refused : (f : TableFault) → GivesFault f f.kind (admitted element.Edge at (length g.edges) (cells_made g) (length columns) (length cells))
      → GivesFault f f.kind (edge_record at label columns cells g)
  edge_refused f h = first_failed f (admitted element.Edge at (length g.edges) (cells_made g) (length columns) (length cells)) _ h

  pub edge_taken : admitted element.Edge at (length g.edges) (cells_made g) (length columns) (length cells) ≡ Ok tt → edge_record at label columns cells g ≡ edge_admitted at label columns cells g
  edge_taken is = rw is refl

-- kinds of values, one more of them
kinds_push : (cs : List Column) (vs : List Value) (c : Column) (v : Value) → HaveKinds cs vs → HasKind c.1 v → HaveKinds (cs ++ c ∷ []) (vs ++ v ∷ [])
kinds_push [] [] c v h one = (one, tt)
kinds_push [] (w ∷ ws) c v h one = absurd h
kinds_push (d ∷ ds) [] c v h one = absurd h
kinds_push (d ∷ ds) (w ∷ ws) c v h one = (h.0, kinds_push ds ws c v h.1 one)

pub kinds_more : (columns : List Column) (i : ℕ) (vs : List Value) (c : Column) (v : Value) → slice_get columns i ≡ Some c → HaveKinds (take i columns) vs → HasKind c.1 v
    → HaveKinds (take (i + 1) columns) (vs ++ v ∷ [])
kinds_more columns i vs c v e h one = rw (take_more i columns c e) (kinds_push (take i columns) vs c v h one)
