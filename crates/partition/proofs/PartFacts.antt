-- The parts of machines, from what they have of their own and what they share.
use Rattle.std.proofs.Common.{◌≡◌, ◌∙◌, ap, refl, ℕ, ◌<◌, ◌==◌, ◌^◌, Bool, true, false, List, [], ◌∷◌, length, map, slice_index, Result, Ok, Err, IfOk}
use Rattle.std.proofs.lemmas.List.{length-map}
use Rattle.std.specs.List.{AllByRecursion}
use Rattle.graph_tables.specs.Graph.{PropertyGraph, without_ends}
use Rattle.partition.specs.Kept.{AreDealt, AreLists, HoldsLists, IsOwn, IsPart, element_at, entry_lists, part_in}
use Rattle.partition.specs.Parts.{MachinePart, entries_of, part_with, vertices_of}
use Rattle.partition.specs.declared.adjacency.Lists.{Lists}
use Rattle.partition.specs.declared.lists.Own.{Own}
use Rattle.partition.specs.declared.shared.Shared.{Shared}
use Rattle.partition.proofs.DealingFacts.{numbers_chosen, vertices_there}
use Rattle.partition.proofs.ListFacts.{a_list_each, entries_all}

map_twice : {A B C : Type 0} (f : B → C) (g : A → B) (xs : List A) → map f (map g xs) ≡ map (λ x. f (g x)) xs
map_twice f g [] = refl
map_twice f g (x ∷ xs) = ap (λ t. f (g x) ∷ t) (map_twice f g xs)

module _ (machines : ℕ) (g : PropertyGraph) (shared : Shared) (each : length shared.dealing.owners.items ≡ length g.vertices) (vertices : shared.vertices ≡ g.vertices)
    (edges : shared.edges ≡ without_ends g.edges) where
  module _ (own : Own) (is : IsOwn shared.dealing.owners.items g.edges own) where
    numbers_are : own.numbers.items ≡ map (λ v. v.0) (vertices_of shared.dealing.owners.items own.machine g.vertices)
    numbers_are = is.vertices ∙ rw each (numbers_chosen 0 (λ v. slice_index shared.dealing.owners.items v == own.machine) g.vertices)

    vertices_are : map (element_at shared.vertices) own.numbers.items ≡ map (λ v. v.1) (vertices_of shared.dealing.owners.items own.machine g.vertices)
    vertices_are = rw (numbers_are, vertices) (vertices_there (λ v. slice_index shared.dealing.owners.items v == own.machine) g.vertices g.vertices 0 refl)

    lists_are : (out : Bool) (lists : Lists) → HoldsLists shared.dealing.owners.items out g.edges own.numbers.items lists
        → entry_lists shared.edges lists ≡ map (λ v. entries_of shared.dealing.owners.items out g.edges v.0) (vertices_of shared.dealing.owners.items own.machine g.vertices)
    lists_are out lists holds =
        entries_all shared.dealing.owners.items out g.edges own.numbers.items lists shared.edges edges holds
        ∙ ap (map (λ v. entries_of shared.dealing.owners.items out g.edges v)) numbers_are
        ∙ map_twice (λ v. entries_of shared.dealing.owners.items out g.edges v) (λ v. v.0) (vertices_of shared.dealing.owners.items own.machine g.vertices)

    pub part_whole : part_in machines shared own ≡ part_with shared.dealing.owners.items machines g own.machine
    part_whole =
        let n = numbers_are in
        let v = vertices_are in
        let out = lists_are true own.outgoing is.outgoing_lists in
        let into = lists_are false own.incoming is.incoming_lists in
        cc

    fits : (out : Bool) (lists : Lists) → HoldsLists shared.dealing.owners.items out g.edges own.numbers.items lists → AreLists (length shared.edges) (length own.numbers.items) lists
    fits out lists holds =
        let size : length shared.edges ≡ length g.edges = ap length edges ∙ length-map g.edges _ in
        record {
          spans = holds.spans;
          at_edges = rw size holds.at_edges;
          a_list_each = a_list_each shared.dealing.owners.items out g.edges own.numbers.items lists holds;
        }

    pub part_kept : length g.vertices < 2 ^ 32 → AreDealt (length g.vertices) shared.dealing → IsPart shared own
    part_kept few dealt = record {
      few = rw vertices few;
      dealt = rw vertices dealt;
      its_vertices = is.vertices;
      outgoing_lists = fits true own.outgoing is.outgoing_lists;
      incoming_lists = fits false own.incoming is.incoming_lists;
    }

  pub parts_whole : (all : List Own) (ms : List ℕ) → AllByRecursion (IsOwn shared.dealing.owners.items g.edges) all → map (λ (own : Own). own.machine) all ≡ ms
      → map (part_in machines shared) all ≡ map (λ m. part_with shared.dealing.owners.items machines g m) ms
  parts_whole [] [] own is = refl
  parts_whole [] (m ∷ ms) own is = cc is
  parts_whole (o ∷ os) [] own is = cc is
  parts_whole (o ∷ os) (m ∷ ms) own is =
      let here : o.machine ≡ m = cc is in
      let rest : map (λ (own : Own). own.machine) os ≡ ms = cc is in
      rw (part_whole o own.0, here, parts_whole os ms own.1 rest) refl

  pub parts_kept : (all : List Own) → length g.vertices < 2 ^ 32 → AreDealt (length g.vertices) shared.dealing → AllByRecursion (IsOwn shared.dealing.owners.items g.edges) all
      → AllByRecursion (IsPart shared) all
  parts_kept [] few dealt own = tt
  parts_kept (o ∷ os) few dealt own = (part_kept o own.0 few dealt, parts_kept os few dealt own.1)

-- the same of other parts that are these
pub met : {T E : Type 0} (r : Result T E) (f : T → List MachinePart) (a b : List MachinePart) → a ≡ b → IfOk r (λ parts. f parts ≡ a) → IfOk r (λ parts. f parts ≡ b)
met (Ok parts) f a b e is = is ∙ e
met (Err x) f a b e is = tt
