-- Machines' parts of a graph.
use Rattle.std.specs.Prelude.{◌≡◌, ℕ, pos, ◌+◌, ◌==◌, Bool, true, false, ℤ, List, [], ◌∷◌, length, map, slice_get, slice_index, Option, option_and_then}
use Rattle.std.specs.List.{filter, range_with_len}
use Rattle.std.specs.Ordering.{nat_cmp, ordering_then}
use Rattle.std.specs.declared.cmp.Ordering.{Ordering}
use Rattle.element_store.specs.Columns.{Cell}
use Rattle.graph_tables.specs.Graph.{Edge, PropertyGraph, Vertex}
use Rattle.sorted_lists.specs.Sorted.{before_by, in_order}
use Rattle.partition.specs.Owners.{machine_of}
use Rattle.partition.specs.declared.adjacent.Adjacent.{Adjacent}
use Rattle.partition.specs.declared.link.Link.{Link}
use Rattle.partition.specs.declared.owner.Owner.{Owner}

-- an edge as it stands in the list of one of its ends: its number and key, the other end and the machine that has it, and
-- the edge's label and values
pub record Entry : Type 0 where
  pub edge : ℕ
  pub key : ℤ
  pub other : ℕ
  pub machine : ℕ
  pub label : ℕ
  pub values : List (ℕ × Cell)

-- a machine's part: how many machines there are and the one that has each vertex of the graph; the numbers of its own
-- vertices, and those vertices; and for each of them the edges that begin at it and those that end at it
pub record MachinePart : Type 0 where
  pub machines : ℕ
  pub owners : List ℕ
  pub numbers : List ℕ
  pub vertices : List Vertex
  pub outgoing : List (List Entry)
  pub incoming : List (List Entry)

-- the lists in one direction
abbrev pub lists_of : Bool → MachinePart → List (List Entry)
lists_of true part = part.outgoing
lists_of false part = part.incoming

-- the entry of a list, by its place
abbrev pub entry_at : Bool → MachinePart → ℕ → ℕ → Option Entry
entry_at out part place n = option_and_then (λ list. slice_get list n) (slice_get (lists_of out part) place)

-- the entry without its values
abbrev pub adjacent_of : Entry → Adjacent
adjacent_of e = record { edge = e.edge; key = e.key; other = e.other; machine = e.machine; label = e.label }

-- the entry without its key and values
abbrev pub link_of_entry : Entry → Link
link_of_entry e = record { other = e.other; edge = e.edge; machine = e.machine; label = e.label }

-- an edge that stands for none
abbrev pub no_edge : Edge
no_edge = record { key = pos 0; label = 0; source = 0; target = 0; values = [] }

-- the items with their numbers, which count from n
abbrev pub numbered : {X : Type 0} → ℕ → List X → List (ℕ × X)
numbered n [] = []
numbered n (x ∷ xs) = (n, x) ∷ numbered (n + 1) xs

-- the end of an edge in whose list it stands: its source in an outgoing list, its target in an incoming one
abbrev pub near_end : Bool → Edge → ℕ
near_end true e = e.source
near_end false e = e.target

abbrev pub other_end : Bool → Edge → ℕ
other_end true e = e.target
other_end false e = e.source

abbrev pub entry_of : List ℕ → Bool → ℕ × Edge → Entry
entry_of owners out e = record {
  edge = e.0;
  key = e.1.key;
  other = other_end out e.1;
  machine = slice_index owners (other_end out e.1);
  label = e.1.label;
  values = e.1.values;
}

-- by the other end, and then by the edge's number
abbrev pub end_order : ℕ × ℕ → ℕ × ℕ → Ordering
end_order a b = ordering_then (nat_cmp a.0 b.0) (nat_cmp a.1 b.1)

abbrev pub entry_order : Entry → Entry → Ordering
entry_order a b = end_order (a.other, a.edge) (b.other, b.edge)

-- the list of a vertex: the edges with that end, in their order
abbrev pub entries_of : List ℕ → Bool → List Edge → ℕ → List Entry
entries_of owners out edges vertex =
    in_order (before_by entry_order) (map (entry_of owners out) (filter (λ e. near_end out e.1 == vertex) (numbered 0 edges)))

-- the vertices of a machine, with their numbers
abbrev pub vertices_of : List ℕ → ℕ → List Vertex → List (ℕ × Vertex)
vertices_of owners machine vertices = filter (λ v. slice_index owners v.0 == machine) (numbered 0 vertices)

-- a machine's part, where this machine has each vertex
abbrev pub part_with : List ℕ → ℕ → PropertyGraph → ℕ → MachinePart
part_with owners machines g machine = record {
  machines = machines;
  owners = owners;
  numbers = map (λ v. v.0) (vertices_of owners machine g.vertices);
  vertices = map (λ v. v.1) (vertices_of owners machine g.vertices);
  outgoing = map (λ v. entries_of owners true g.edges v.0) (vertices_of owners machine g.vertices);
  incoming = map (λ v. entries_of owners false g.edges v.0) (vertices_of owners machine g.vertices);
}

-- the machine of each vertex
abbrev pub owners_in : Owner → ℕ → ℕ → List ℕ
owners_in owner vertices machines = map (λ v. machine_of owner vertices machines v) (range_with_len 0 vertices)

abbrev pub part_of : PropertyGraph → Owner → ℕ → ℕ → MachinePart
part_of g owner machines machine = part_with (owners_in owner (length g.vertices) machines) machines g machine

-- the part of each machine
abbrev pub parts_of : PropertyGraph → Owner → ℕ → List MachinePart
parts_of g owner machines = map (λ machine. part_of g owner machines machine) (range_with_len 0 machines)

-- The parts are those that the owner deals out.
abbrev pub PartsMeet : PropertyGraph → Owner → ℕ → List MachinePart → Type 0
PartsMeet g owner machines parts = parts ≡ parts_of g owner machines
