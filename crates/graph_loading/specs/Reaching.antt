-- Which files a load comes to.
use Rattle.std.specs.Prelude.{◌≡◌, ℕ, ◌-◌, ◌≤◌, List, length, take, IsOk, Ok, ◌⊎◌}
use Rattle.adfs_base.specs.Files.{Files}
use Rattle.graph_tables.specs.Graph.{empty_graph}
use Rattle.graph_tables.specs.declared.manifest.TableLine.{TableLine}
use Rattle.graph_loading.specs.Loaded.{tables_from, tables_named}

-- The file is one of the tables, and those before it load.
pub record IsTableReached (files : Files) (tables : List TableLine) (file : ℕ) : Type 0 where
  pub first : 1 ≤ file
  pub last : file ≤ length tables
  pub before : IsOk (tables_from files 1 (take (file - 1) tables) (0, empty_graph))

-- The file is the manifest, or a table that the manifest names.
abbrev pub IsReached : Files → List ℕ → ℕ → Type 0
IsReached files manifest file = (file ≡ 0) ⊎ ((tables : List TableLine) × (tables_named files manifest ≡ Ok tables) × IsTableReached files tables file)
