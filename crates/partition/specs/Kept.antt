-- How a part keeps its vertices and the edges at them.
use Rattle.std.specs.Prelude.{◌≡◌, ℕ, pos, ◌+◌, ◌<◌, ◌≤◌, ◌==◌, ◌^◌, ◌-◌, Bool, true, false, List, [], ◌∷◌, length, map, take, drop, slice_index, slice_index_or}
use Rattle.std.specs.List.{AllByRecursion, filter, range_with_len}
use Rattle.std.specs.declared.cmp.Ordering.{Ordering}
use Rattle.element_store.specs.Elements.{Element}
use Rattle.graph_tables.specs.Graph.{Edge}
use Rattle.sorted_lists.specs.Sorted.{before_by, in_order}
use Rattle.partition.specs.Parts.{Entry, MachinePart, end_order, near_end, numbered, other_end}
use Rattle.partition.specs.declared.adjacency.Lists.{Lists}
use Rattle.partition.specs.declared.adjacency.Span.{Span}
use Rattle.partition.specs.declared.chains.Chains.{Chains}
use Rattle.partition.specs.declared.dealing.Dealing.{Dealing}
use Rattle.partition.specs.declared.link.Link.{Link}
use Rattle.partition.specs.declared.lists.Own.{Own}
use Rattle.partition.specs.declared.shared.Shared.{Shared}

-- ---- the edges of a vertex

-- the edges with this end, from those that begin with this number
abbrev pub edges_from : Bool → ℕ → List Edge → ℕ → List (ℕ × Edge)
edges_from out number edges vertex = filter (λ e. near_end out e.1 == vertex) (numbered number edges)

abbrev pub edges_at : Bool → List Edge → ℕ → List (ℕ × Edge)
edges_at out edges vertex = edges_from out 0 edges vertex

-- the greatest number of 32 bits, after the last edge of a chain
abbrev pub no_number : ℕ
no_number = 2 ^ 32 - 1

-- From a number on, each leads to the next of these edges, and the last to none.
abbrev pub IsChain : List ℕ → ℕ → List (ℕ × Edge) → Type 0
IsChain next at [] = at ≡ no_number
IsChain next at (e ∷ es) = (at ≡ e.0) × (at < length next) × IsChain next (slice_index next at) es

-- Each vertex leads to its edges.
pub record AreChains (vertices : ℕ) (out : Bool) (edges : List Edge) (chains : Chains) : Type 0 where
  pub a_first_each : length chains.first.items ≡ vertices
  pub a_next_each : length chains.next.items ≡ length edges
  pub each : (v : ℕ) → v < vertices → IsChain chains.next.items (slice_index chains.first.items v) (edges_at out edges v)

-- ---- links

abbrev pub link_of : List ℕ → Bool → ℕ × Edge → Link
link_of owners out e = record { other = other_end out e.1; edge = e.0; machine = slice_index owners (other_end out e.1); label = e.1.label }

abbrev pub links_at : List ℕ → Bool → List Edge → ℕ → List Link
links_at owners out edges vertex = map (link_of owners out) (edges_at out edges vertex)

abbrev pub link_order : Link → Link → Ordering
link_order a b = end_order (a.other, a.edge) (b.other, b.edge)

-- the links in the order of their entries
abbrev pub links_in_order : List Link → List Link
links_in_order links = in_order (before_by link_order) links

abbrev pub linked : List Link → Span → List Link
linked links span = take span.degree (drop span.start links)

-- the links of each vertex
abbrev pub link_lists : Lists → List (List Link)
link_lists lists = map (linked lists.links.items) lists.spans.items

-- The span's links are there.
abbrev pub IsSpan : ℕ → Span → Type 0
IsSpan links span = span.start + span.degree ≤ links

-- The lists are those of these vertices.
pub record HoldsLists (owners : List ℕ) (out : Bool) (edges : List Edge) (numbers : List ℕ) (lists : Lists) : Type 0 where
  pub in_order : link_lists lists ≡ map (λ v. links_in_order (links_at owners out edges v)) numbers
  pub spans : AllByRecursion (IsSpan (length lists.links.items)) lists.spans.items
  pub at_edges : AllByRecursion (λ link. link.edge < length edges) lists.links.items

-- ---- who has which vertex

-- how many vertices before this one its machine has
abbrev pub rank : List ℕ → ℕ → ℕ
rank owners v = length (filter (λ u. slice_index owners u == slice_index owners v) (range_with_len 0 v))

-- A machine for each vertex, and its place among those of that machine.
pub record AreDealt (vertices : ℕ) (dealing : Dealing) : Type 0 where
  pub an_owner_each : length dealing.owners.items ≡ vertices
  pub a_place_each : length dealing.places.items ≡ vertices
  pub placed : (v : ℕ) → v < vertices → slice_index dealing.places.items v ≡ rank dealing.owners.items v

-- the vertices of a machine
abbrev pub numbers_of : List ℕ → ℕ → List ℕ
numbers_of owners machine = filter (λ v. slice_index owners v == machine) (range_with_len 0 (length owners))

-- A machine has its vertices and their lists.
pub record IsOwn (owners : List ℕ) (edges : List Edge) (own : Own) : Type 0 where
  pub vertices : own.numbers.items ≡ numbers_of owners own.machine
  pub outgoing_lists : HoldsLists owners true edges own.numbers.items own.outgoing
  pub incoming_lists : HoldsLists owners false edges own.numbers.items own.incoming

-- ---- a part

-- an element that stands for none
abbrev pub no_element : Element
no_element = record { key = pos 0; label = 0; values = [] }

abbrev pub element_at : List Element → ℕ → Element
element_at elements number = slice_index_or elements number no_element

-- the entry that a link stands for, with the rest of its edge
abbrev pub entry_from : List Element → Link → Entry
entry_from edges link = record {
  edge = link.edge;
  key = (element_at edges link.edge).key;
  other = link.other;
  machine = link.machine;
  label = link.label;
  values = (element_at edges link.edge).values;
}

abbrev pub entry_lists : List Element → Lists → List (List Entry)
entry_lists edges lists = map (λ links. map (entry_from edges) links) (link_lists lists)

-- the part that is held so
abbrev pub part_in : ℕ → Shared → Own → MachinePart
part_in machines shared own = record {
  machines = machines;
  owners = shared.dealing.owners.items;
  numbers = own.numbers.items;
  vertices = map (element_at shared.vertices) own.numbers.items;
  outgoing = entry_lists shared.edges own.outgoing;
  incoming = entry_lists shared.edges own.incoming;
}

-- Lists for so many vertices, whose links are there and lead to edges.
pub record AreLists (edges places : ℕ) (lists : Lists) : Type 0 where
  pub spans : AllByRecursion (IsSpan (length lists.links.items)) lists.spans.items
  pub at_edges : AllByRecursion (λ link. link.edge < edges) lists.links.items
  pub a_list_each : length lists.spans.items ≡ places

-- What a part keeps: a machine and a place for each vertex, the vertices of its own, and lists for them.
pub record IsPart (shared : Shared) (own : Own) : Type 0 where
  pub few : length shared.vertices < 2 ^ 32
  pub dealt : AreDealt (length shared.vertices) shared.dealing
  pub its_vertices : own.numbers.items ≡ numbers_of shared.dealing.owners.items own.machine
  pub outgoing_lists : AreLists (length shared.edges) (length own.numbers.items) own.outgoing
  pub incoming_lists : AreLists (length shared.edges) (length own.numbers.items) own.incoming
