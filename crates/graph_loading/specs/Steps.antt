-- What the steps of a load say of the store, of a file and of a table that begins.
use Rattle.std.specs.Prelude.{◌≡◌, ℕ, ◌+◌, ◌<◌, ◌≤◌, nat_le, if◌then◌else◌, List, length, Option, Result, Ok, Err, IfErr}
use Rattle.adfs_base.specs.Files.{Files}
use Rattle.adfs_base.specs.declared.store.Loaded.{Loaded}
use Rattle.adfs_base.specs.declared.store.Loaded.TheVariants as loaded
use Rattle.value_text.specs.Texts.{number_of}
use Rattle.graph_tables.specs.Faults.{FailsAt, HasCause, fault_of}
use Rattle.graph_tables.specs.Graph.{empty_graph}
use Rattle.graph_tables.specs.Loading.{IsSound, filled_of, graph_of, properties_in, tables_in}
use Rattle.graph_tables.specs.declared.element_kind.ElementKind.{ElementKind}
use Rattle.graph_tables.specs.declared.faults.TableFault.{TableFault}
use Rattle.graph_tables.specs.declared.faults.TableKind.TheVariants as kind
use Rattle.graph_tables.specs.declared.loading.Loading.{Loading}
use Rattle.graph_loading.specs.Loaded.{most_of_all, most_of_file}

-- The fault, if it is that of a file that the store lacks, is told of one of these files, as a whole.
abbrev pub LacksAt : ℕ → ℕ → TableFault → Type 0
LacksAt first last e = e.kind ≡ kind.Missing → (e ≡ fault_of e.file kind.Missing) × (first ≤ e.file) × (e.file ≤ last)

-- How loads of these files leave their store, and why one of them fails.
pub record ReadsFiles {S X : Type 0} (files : S → Option Files) (faults misses : S → ℕ) (old new : S) (first last : ℕ) (result : Result X TableFault) : Type 0 where
  pub kept : files new ≡ files old
  pub cause : HasCause (files old) (faults old) (faults new) (misses old) (misses new) result
  pub place : IfErr result (FailsAt first last)
  pub lacking : IfErr result (LacksAt first last)

-- what a load's answer means for the file, of which so many bytes were read
abbrev pub file_answer : ℕ → Loaded → ℕ → Result (Unit {0}) TableFault
file_answer file loaded.Whole len = if nat_le len most_of_file then Ok tt else Err (fault_of file kind.TooLong)
file_answer file loaded.Missing len = Err (fault_of file kind.Missing)
file_answer file loaded.Failed len = Err (fault_of file kind.ReadFault)
file_answer file loaded.NoMemory len = Err (fault_of 0 kind.NoMemory)

-- A table of this label began with a header of so many cells.
pub record HasBegun (of : ElementKind) (name : List ℕ) (width : ℕ) (old new : Loading) : Type 0 where
  pub sound : IsSound new
  pub label : (filled_of of new).label ≡ number_of old.texts name
  pub table : 0 < (filled_of of new).tables
  pub tables : tables_in new ≡ tables_in old + 1
  pub properties : properties_in new ≤ properties_in old + width

-- A table was loaded, whose bytes make one sum of all tables' bytes into the next.
pub record HasLoaded (total sum : ℕ) (old new : Loading) : Type 0 where
  pub within : sum ≤ most_of_all
  pub sound : IsSound new
  pub tables : tables_in new ≡ tables_in old + 1
  pub properties : properties_in new + total ≤ properties_in old + sum + 1

-- Nothing was loaded yet.
pub record IsEmpty (l : Loading) : Type 0 where
  pub graph : graph_of l ≡ empty_graph
  pub sound : IsSound l
  pub tables : tables_in l ≡ 0
  pub properties : properties_in l ≡ 0
