-- The tables of a seed as files.
use Rattle.std.specs.Prelude.{ℕ, List, [], ◌∷◌, codes}
use Rattle.adfs_base.specs.Files.{Files}
use Rattle.graph_gen.specs.declared.tables.Tables.{Tables}
use Rattle.graph_gen.specs.Generated.{links_text, manifest_text, nodes_text}

-- the three files that the texts make
abbrev pub named : List ℕ → List ℕ → List ℕ → Files
named manifest nodes links = (codes "graph.txt", manifest) ∷ (codes "nodes.csv", nodes) ∷ (codes "links.csv", links) ∷ []

abbrev pub files_of : Tables → Files
files_of tables = named tables.manifest.items tables.nodes.items tables.links.items

-- those of a seed
abbrev pub generated_files : ℕ → ℕ → ℕ → Files
generated_files seed vertices edges = named manifest_text (nodes_text seed vertices) (links_text seed vertices edges)
