-- Together the parts are the graph.
use Rattle.std.specs.Prelude.{◌≡◌, ℕ, ◌<◌, ◌==◌, Bool, if◌then◌else◌, List, length, count_by, slice_get, Option, Some}
use Rattle.graph_tables.specs.Graph.{Edge, PropertyGraph}
use Rattle.partition.specs.Owners.{machine_of}
use Rattle.partition.specs.Parts.{Entry, entry_at, entry_of, lists_of, near_end, owners_in, part_of}
use Rattle.partition.specs.declared.owner.Owner.{Owner}

-- once where it is so, else not at all
abbrev pub once_if : Bool → ℕ
once_if b = if b then 1 else 0

-- The list of a vertex has an edge once where that end of the edge is the vertex, else not at all.
pub record ListsOnce (out : Bool) (list : Option (List Entry)) (vertex number : ℕ) (e : Edge) : Type 0 where
  pub entries : List Entry
  pub is : list ≡ Some entries
  pub once : count_by (λ entry. entry.edge == number) entries ≡ once_if (near_end out e == vertex)

-- An entry tells an edge of the graph as it is: with its key, label and values, its other end, and the machine of that. It stands
-- in the list of its near end.
pub record TellsEdge (g : PropertyGraph) (owners : List ℕ) (out : Bool) (vertex : ℕ) (entry : Entry) : Type 0 where
  pub edge : Edge
  pub is : slice_get g.edges entry.edge ≡ Some edge
  pub end : near_end out edge ≡ vertex
  pub told : entry ≡ entry_of owners out (entry.edge, edge)

-- Each vertex stands once in the part of its machine, and in no other; it is the graph's; and in its lists stand, once each, the
-- edges with that end, and nothing else.
pub record Stand (g : PropertyGraph) (owner : Owner) (machines machine : ℕ) : Type 0 where
  pub vertex_once : (v : ℕ) → v < length g.vertices
      → count_by (λ n. n == v) (part_of g owner machines machine).numbers ≡ once_if (machine_of owner (length g.vertices) machines v == machine)
  pub vertex_there : (place v : ℕ) → slice_get (part_of g owner machines machine).numbers place ≡ Some v
      → slice_get (part_of g owner machines machine).vertices place ≡ slice_get g.vertices v
  pub edge_once : (out : Bool) (place v n : ℕ) (e : Edge) → slice_get (part_of g owner machines machine).numbers place ≡ Some v → slice_get g.edges n ≡ Some e
      → ListsOnce out (slice_get (lists_of out (part_of g owner machines machine)) place) v n e
  pub entry_right : (out : Bool) (place v n : ℕ) (entry : Entry) → slice_get (part_of g owner machines machine).numbers place ≡ Some v → entry_at out (part_of g owner machines machine) place n ≡ Some entry
      → TellsEdge g (owners_in owner (length g.vertices) machines) out v entry

abbrev pub PartsAreTheGraph : Type 0
PartsAreTheGraph = (g : PropertyGraph) (owner : Owner) (machines machine : ℕ) → Stand g owner machines machine
