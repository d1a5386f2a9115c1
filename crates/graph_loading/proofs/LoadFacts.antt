-- The bytes of a file, by what a store gave of it.
use Rattle.std.proofs.Common.{◌≡◌, ◌∙◌, sym, ℕ, ◌+◌, ◌<◌, ◌≤◌, List, length, take, Option, Some, None, Result, Ok, Err, IfSome, IsSomeAnd, arith, refl, ap, min, nat_lt, true, false, [], ◌∷◌, drop, slice_get}
use Rattle.std.proofs.lemmas.Bool.Decides.{nat_tests}
use Rattle.std.proofs.lemmas.List.{drop_all, length-take, take_all}
use Rattle.csv_records.specs.Table.{records_of}
use Rattle.value_text.specs.Texts.{number_of}
use Rattle.element_store.specs.Columns.{Column}
use Rattle.adfs_base.specs.Files.{Files, Reads, file_of}
use Rattle.graph_tables.specs.Faults.{GivesFault, LoadsFault, fault_at, fault_of}
use Rattle.graph_tables.specs.Graph.{PropertyGraph}
use Rattle.graph_tables.specs.Headers.{keys_first}
use Rattle.graph_tables.specs.Manifest.{manifest_of}
use Rattle.graph_loading.specs.Rows.{rows_from}
use Rattle.graph_loading.specs.Loaded.{added_up, begun, begun_of, file_bytes, most_of_file, table_records, tables_from, tables_named, with_table}
use Rattle.graph_tables.specs.declared.faults.Place.{Place}
use Rattle.graph_tables.specs.declared.faults.TableFault.{TableFault}
use Rattle.graph_tables.specs.declared.element_kind.ElementKind.{ElementKind}
use Rattle.graph_tables.specs.declared.element_kind.ElementKind.TheVariants as element
use Rattle.graph_tables.specs.declared.manifest.TableLine.{TableLine}
use Rattle.graph_tables.proofs.FaultFacts.{later_failed, lifted, load_failed}
use Rattle.graph_tables.proofs.RecordFacts.{drop_at}
use Rattle.graph_tables.specs.declared.faults.TableKind.TheVariants as kind

short_file : (file : ℕ) (bytes : List ℕ) (found : Option (List ℕ)) → IsSomeAnd found (λ f. bytes ≡ take (most_of_file + 1) f) → length bytes ≤ most_of_file
    → file_bytes file found ≡ Ok bytes
short_file file bytes None r h = absurd r
short_file file bytes (Some f) r h =
    let size : length bytes ≡ min (most_of_file + 1) (length f) = ap length r ∙ length-take (most_of_file + 1) f in
    let few : length f ≤ most_of_file + 1 = omega arith in
    let same : bytes ≡ f = r ∙ take_all (most_of_file + 1) f few in
    let under : nat_lt most_of_file (length f) ≡ false = grind (arith, nat_tests) in
    rw (under, same) refl

long_file : (file : ℕ) (bytes : List ℕ) (found : Option (List ℕ)) → IsSomeAnd found (λ f. bytes ≡ take (most_of_file + 1) f) → most_of_file < length bytes
    → file_bytes file found ≡ Err (fault_of file kind.TooLong)
long_file file bytes None r h = absurd r
long_file file bytes (Some f) r h =
    let size : length bytes ≡ min (most_of_file + 1) (length f) = ap length r ∙ length-take (most_of_file + 1) f in
    let over : nat_lt most_of_file (length f) ≡ true = grind (arith, nat_tests) in
    rw over refl

pub whole : (files : Option Files) (name : List ℕ) (file : ℕ) (bytes : List ℕ) → Reads files name most_of_file bytes → length bytes ≤ most_of_file
    → IfSome files (λ told. file_bytes file (file_of name told) ≡ Ok bytes)
whole None name file bytes r h = tt
whole (Some told) name file bytes r h = short_file file bytes (file_of name told) r h

pub too_long : (files : Option Files) (name : List ℕ) (file : ℕ) (bytes : List ℕ) (e : TableFault) → e ≡ fault_of file kind.TooLong → Reads files name most_of_file bytes → most_of_file < length bytes
    → IfSome files (λ told. LoadsFault e e.kind (file_bytes file (file_of name told)))
too_long None name file bytes e is r h = tt
too_long (Some told) name file bytes e is r h = rw (is, long_file file bytes (file_of name told) r h) refl

module _ (told : Option Files) (file total : ℕ) (table : TableLine) (g : PropertyGraph) where
  abbrev pub the_file : Files → Result (List ℕ) TableFault
  the_file files = file_bytes file (file_of table.file files)

  pub file_failed : (e : TableFault) → IfSome told (λ files. LoadsFault e e.kind (the_file files)) → IfSome told (λ files. LoadsFault e e.kind (with_table files file table (total, g)))
  unfolding with_table
  file_failed e h = by told h
    where
      by : (o : Option Files) → IfSome o (λ files. LoadsFault e e.kind (the_file files)) → IfSome o (λ files. LoadsFault e e.kind (with_table files file table (total, g)))
      by None k = tt
      by (Some files) k = load_failed e (the_file files) (with_table files file table (total, g)) k (λ w. rw w refl)

  module _ (bytes : List ℕ) (whole_file : IfSome told (λ files. the_file files ≡ Ok bytes)) where
    pub sum_failed : (e : TableFault) → GivesFault e e.kind (added_up file total bytes) → IfSome told (λ files. LoadsFault e e.kind (with_table files file table (total, g)))
    unfolding with_table
    sum_failed e h = by told whole_file
      where
        by : (o : Option Files) → IfSome o (λ files. the_file files ≡ Ok bytes) → IfSome o (λ files. LoadsFault e e.kind (with_table files file table (total, g)))
        by None k = tt
        by (Some files) k = load_failed e (added_up file total bytes) (with_table files file table (total, g)) (lifted e (added_up file total bytes) h) (λ w. rw (k, w) refl)

    module _ (sum : ℕ) (added : added_up file total bytes ≡ Ok sum) where
      pub records_failed : (e : TableFault) → GivesFault e e.kind (table_records file table (records_of bytes) g) → IfSome told (λ files. LoadsFault e e.kind (with_table files file table (total, g)))
      unfolding with_table
      records_failed e h = by told whole_file
        where
          by : (o : Option Files) → IfSome o (λ files. the_file files ≡ Ok bytes) → IfSome o (λ files. LoadsFault e e.kind (with_table files file table (total, g)))
          by None k = tt
          by (Some files) k = load_failed e (table_records file table (records_of bytes) g) (with_table files file table (total, g)) (lifted e (table_records file table (records_of bytes) g) h) (λ w. rw (k, added, w) refl)

      pub table_loaded : (g2 : PropertyGraph) → table_records file table (records_of bytes) g ≡ Ok g2 → IfSome told (λ files. with_table files file table (total, g) ≡ Ok (sum, g2))
      unfolding with_table
      table_loaded g2 is = by told whole_file
        where
          by : (o : Option Files) → IfSome o (λ files. the_file files ≡ Ok bytes) → IfSome o (λ files. with_table files file table (total, g) ≡ Ok (sum, g2))
          by None k = tt
          by (Some files) k = rw (k, added, is) refl

-- one table of many
module _ (told : Option Files) (tables : List TableLine) (i total : ℕ) (g : PropertyGraph) (table : TableLine) (start : Files → Result (ℕ × PropertyGraph) TableFault)
    (there : slice_get tables i ≡ Some table) (was : IfSome told (λ files. tables_from files (i + 1) (drop i tables) (total, g) ≡ start files)) where
  pub tables_kept : (sum : ℕ) (g2 : PropertyGraph) → IfSome told (λ files. with_table files (i + 1) table (total, g) ≡ Ok (sum, g2))
      → IfSome told (λ files. tables_from files (i + 1 + 1) (drop (i + 1) tables) (sum, g2) ≡ start files)
  unfolding tables_from
  tables_kept sum g2 is = by told was is
    where
      by : (o : Option Files) → IfSome o (λ files. tables_from files (i + 1) (drop i tables) (total, g) ≡ start files) → IfSome o (λ files. with_table files (i + 1) table (total, g) ≡ Ok (sum, g2))
          → IfSome o (λ files. tables_from files (i + 1 + 1) (drop (i + 1) tables) (sum, g2) ≡ start files)
      by None w h = tt
      by (Some files) w h = let e = rw (drop_at tables i table there) at w in rw h at e

  pub tables_failed : (f : TableFault) → IfSome told (λ files. LoadsFault f f.kind (with_table files (i + 1) table (total, g))) → IfSome told (λ files. LoadsFault f f.kind (start files))
  unfolding tables_from
  tables_failed f is = by told was is
    where
      by : (o : Option Files) → IfSome o (λ files. tables_from files (i + 1) (drop i tables) (total, g) ≡ start files) → IfSome o (λ files. LoadsFault f f.kind (with_table files (i + 1) table (total, g)))
          → IfSome o (λ files. LoadsFault f f.kind (start files))
      by None w h = tt
      by (Some files) w h =
          let e = rw (drop_at tables i table there) at w in
          load_failed f (with_table files (i + 1) table (total, g)) (start files) h (λ k. sym e ∙ rw k refl)

pub tables_done : (told : Option Files) (tables : List TableLine) (i total : ℕ) (g : PropertyGraph) (start : Files → Result (ℕ × PropertyGraph) TableFault) → length tables ≤ i
    → IfSome told (λ files. tables_from files (i + 1) (drop i tables) (total, g) ≡ start files) → IfSome told (λ files. start files ≡ Ok (total, g))
unfolding tables_from
tables_done None tables i total g start past w = tt
tables_done (Some files) tables i total g start past w = let e = rw (drop_all i tables past) at w in sym e

-- a table's records, from its header on
no_keys : (of : ElementKind) (at : Place) → keys_first of at [] ≡ Err (fault_at at 1 kind.BadHeader)
no_keys element.Vertex at = refl
no_keys element.Edge at = refl

begun_without : (of : ElementKind) (at : Place) (label : List ℕ) (g : PropertyGraph) → begun_of of at label [] g ≡ Err (fault_at at 1 kind.BadHeader)
begun_without element.Vertex at label g = refl
begun_without element.Edge at label g = refl

module _ (file : ℕ) (table : TableLine) (g : PropertyGraph) (records : List (List (List ℕ))) where
  pub no_header : records ≡ [] → table_records file table records g ≡ Err (fault_at (record { file = file; row = 1 }) 1 kind.BadHeader)
  no_header none = rw (none, begun_without table.of (record { file = file; row = 1 }) table.label g) refl

  module _ (header : List (List ℕ)) (rest : List (List (List ℕ))) (took : records ≡ header ∷ rest) where
    pub header_failed : (e : TableFault) → GivesFault e e.kind (begun (record { file = file; row = 1 }) table header g) → GivesFault e e.kind (table_records file table records g)
    header_failed e h = later_failed e (begun (record { file = file; row = 1 }) table header g) (table_records file table records g) h (λ w. rw (took, w) refl)

    module _ (columns : List Column) (g2 : PropertyGraph) (is : begun (record { file = file; row = 1 }) table header g ≡ Ok (columns, g2)) where
      pub rows_failed_in : (e : TableFault) → GivesFault e e.kind (rows_from table.of file 2 (number_of g.texts table.label) columns rest g2) → GivesFault e e.kind (table_records file table records g)
      rows_failed_in e h = later_failed e (rows_from table.of file 2 (number_of g.texts table.label) columns rest g2) (table_records file table records g) h (λ w. rw (took, is) w)

      pub table_read : (g3 : PropertyGraph) → rows_from table.of file 2 (number_of g.texts table.label) columns rest g2 ≡ Ok g3 → table_records file table records g ≡ Ok g3
      table_read g3 done = rw (took, is) done

-- the manifest and then its tables
pub manifest_failed : (told : Option Files) (name bytes : List ℕ) (e : TableFault) → IfSome told (λ files. file_bytes 0 (file_of name files) ≡ Ok bytes) → GivesFault e e.kind (manifest_of bytes)
    → IfSome told (λ files. LoadsFault e e.kind (tables_named files name))
manifest_failed None name bytes e k h = tt
manifest_failed (Some files) name bytes e k h = load_failed e (manifest_of bytes) (tables_named files name) (lifted e (manifest_of bytes) h) (λ w. rw (k, w) refl)
