-- The lists of vertices, and the entries that their links stand for.
use Rattle.std.proofs.Common.{◌≡◌, ◌∙◌, sym, ap, refl, subst, arith, ℕ, zero, suc, ◌+◌, ◌<◌, ◌≤◌, ◌==◌, Bool, true, false, cond, List, [], ◌∷◌, ◌++◌, length, map, take, slice_get, slice_index, slice_index_or, Some}
use Rattle.std.proofs.lemmas.List.{length-map, map-append, take_more}
use Rattle.std.proofs.lemmas.Option.{slice_get-get_or}
use Rattle.std.specs.List.{AllByRecursion, filter, range_with_len}
use Rattle.std.specs.Option.{option_map}
use Rattle.element_store.specs.Elements.{Element}
use Rattle.graph_tables.specs.Graph.{Edge, without_ends}
use Rattle.sorted_lists.specs.Sorted.{before_by, in_order}
use Rattle.partition.specs.Kept.{HoldsLists, IsSpan, edges_at, element_at, entry_from, link_lists, link_of, link_order, linked, links_at, links_in_order, numbers_of}
use Rattle.partition.specs.Parts.{entries_of, entry_of, entry_order, near_end, no_edge, other_end}
use Rattle.partition.specs.declared.link.Link.{Link}
use Rattle.partition.specs.declared.adjacency.Lists.{Lists}
use Rattle.partition.proofs.AdjacencyFacts.{All-in_order, map-in_order}
use Rattle.partition.proofs.ChainFacts.{each_known, length-edges_from}

-- ---- an edge, by what is read of it

module _ (edges : List Edge) (n label : ℕ) (less : n < length edges) (is : option_map (λ (e : Edge). e.label) (slice_get edges n) ≡ Some label) where
  pub label_is : label ≡ (slice_index_or edges n no_edge).label
  label_is = let there = rw (slice_get-get_or edges n no_edge less) at is in cc there

pub other_is : (out : Bool) (e : Edge) (source target other : ℕ) → e.source ≡ source → e.target ≡ target → other ≡ cond out target source → other ≡ other_end out e
other_is true e source target other s t is = is ∙ sym t
other_is false e source target other s t is = is ∙ sym s

module _ (edges : List Edge) (n : ℕ) (read : ℕ × ℕ) (less : n < length edges)
    (is : option_map {U = ℕ × ℕ} (λ (e : Edge). (e.source, e.target)) (slice_get edges n) ≡ Some read) where
  both_ends : ◌≡◌ {A = ℕ × ℕ} ((slice_index_or edges n no_edge).source, (slice_index_or edges n no_edge).target) read
  both_ends = let there = rw (slice_get-get_or edges n no_edge less) at is in cc there

  pub source_is : (slice_index_or edges n no_edge).source ≡ read.0
  source_is = ap (λ (p : ℕ × ℕ). p.0) both_ends

  pub target_is : (slice_index_or edges n no_edge).target ≡ read.1
  target_is = ap (λ (p : ℕ × ℕ). p.1) both_ends

  pub near_is : (out : Bool) (end : ℕ) → end ≡ cond out read.0 read.1 → end ≡ near_end out (slice_index_or edges n no_edge)
  near_is true end e = e ∙ sym (ap (λ (p : ℕ × ℕ). p.0) both_ends)
  near_is false end e = e ∙ sym (ap (λ (p : ℕ × ℕ). p.1) both_ends)

-- ---- numbers

-- a machine's vertices are vertices
numbers_below : (p : ℕ → Bool) (k n most : ℕ) → k + n ≡ most → AllByRecursion (λ v. v < most) (filter p (range_with_len k n))
numbers_below p k zero most e = tt
numbers_below p k (suc n) most e = by (p k) (numbers_below p (k + 1) n most (omega (arith, e)))
  where
    by : (b : Bool) → AllByRecursion (λ v. v < most) (filter p (range_with_len (k + 1) n)) → AllByRecursion (λ v. v < most) (cond b (k ∷ filter p (range_with_len (k + 1) n)) (filter p (range_with_len (k + 1) n)))
    by true all = (omega (arith, e), all)
    by false all = all

pub own_below : (owners : List ℕ) (machine : ℕ) → AllByRecursion (λ v. v < length owners) (numbers_of owners machine)
own_below owners machine = numbers_below (λ v. slice_index owners v == machine) 0 (length owners) (length owners) (omega arith)

pub All-get : {X : Type 0} (P : X → Type 0) (xs : List X) (i : ℕ) (x : X) → AllByRecursion P xs → slice_get xs i ≡ Some x → P x
All-get P [] i x all at = cc at
All-get P (y ∷ ys) zero x all at = let same : y ≡ x = cc at in subst P same all.0
All-get P (y ∷ ys) (suc i) x all at = All-get P ys i x all.1 at

All-append : {X : Type 0} (P : X → Type 0) (xs ys : List X) → AllByRecursion P xs → AllByRecursion P ys → AllByRecursion P (xs ++ ys)
All-append P [] ys a b = b
All-append P (x ∷ xs) ys a b = (a.0, All-append P xs ys a.1 b)

-- ---- links lead to edges

links_known : (owners : List ℕ) (out : Bool) (edges : List Edge) (es : List (ℕ × Edge)) → AllByRecursion (λ e. (e.0 < length edges) × (e.1 ≡ slice_index_or edges e.0 no_edge)) es
    → AllByRecursion (λ (l : Link). l.edge < length edges) (map (link_of owners out) es)
links_known owners out edges [] all = tt
links_known owners out edges (e ∷ es) all = (all.0.0, links_known owners out edges es all.1)

pub edges_more : (owners : List ℕ) (out : Bool) (edges : List Edge) (v : ℕ) (links new : List Link) → new ≡ links ++ links_in_order (links_at owners out edges v)
    → AllByRecursion (λ (l : Link). l.edge < length edges) links → AllByRecursion (λ (l : Link). l.edge < length edges) new
edges_more owners out edges v links new is all =
    rw is (All-append (λ (l : Link). l.edge < length edges) links (links_in_order (links_at owners out edges v)) all
    (All-in_order (λ (l : Link). l.edge < length edges) (before_by link_order) (links_at owners out edges v) (links_known owners out edges (edges_at out edges v) (each_known out v edges edges 0 refl))))

-- the lists of one vertex more
pub holds_more : (owners : List ℕ) (out : Bool) (edges : List Edge) (numbers : List ℕ) (i v : ℕ) (old new : Lists) → i < length numbers → v ≡ slice_index numbers i
    → HoldsLists owners out edges (take i numbers) old → link_lists new ≡ link_lists old ++ links_in_order (links_at owners out edges v) ∷ []
    → AllByRecursion (IsSpan (length new.links.items)) new.spans.items → new.links.items ≡ old.links.items ++ links_in_order (links_at owners out edges v)
    → HoldsLists owners out edges (take (i + 1) numbers) new
holds_more owners out edges numbers i v old new less is holds added spans links =
    let f = λ (w : ℕ). links_in_order (links_at owners out edges w) in
    let front : map f (take (i + 1) numbers) ≡ map f (take i numbers) ++ f (slice_index numbers i) ∷ [] =
    ap (map f) (take_more numbers i 0 less) ∙ map-append f (take i numbers) (slice_index numbers i ∷ []) in
    record {
      in_order = added ∙ rw (holds.in_order, is) (sym front);
      spans = spans;
      at_edges = edges_more owners out edges v old.links.items new.links.items links holds.at_edges;
    }

-- a vertex has no more links than there are edges
pub length-links_at : (owners : List ℕ) (out : Bool) (edges : List Edge) (v : ℕ) → length (links_at owners out edges v) ≤ length edges
length-links_at owners out edges v = rw (length-map (edges_at out edges v) (link_of owners out)) (length-edges_from out 0 edges v)

-- ---- entries

bare_at : (edges : List Edge) (n : ℕ) → n < length edges → element_at (without_ends edges) n
    ≡ record { key = (slice_index_or edges n no_edge).key; label = (slice_index_or edges n no_edge).label; values = (slice_index_or edges n no_edge).values }
bare_at [] n less = absurd (omega arith)
bare_at (e ∷ es) zero less = refl
bare_at (e ∷ es) (suc n) less = bare_at es n (omega arith)

module _ (owners : List ℕ) (out : Bool) (edges : List Edge) where
  entries_are : (es : List (ℕ × Edge)) → AllByRecursion (λ e. (e.0 < length edges) × (e.1 ≡ slice_index_or edges e.0 no_edge)) es
      → map (entry_from (without_ends edges)) (map (link_of owners out) es) ≡ map (entry_of owners out) es
  entries_are [] all = refl
  entries_are (e ∷ es) all =
      let bare = bare_at edges e.0 all.0.0 in
      rw (bare, ← all.0.1, entries_are es all.1) refl

  entries_here : (v : ℕ) → map (entry_from (without_ends edges)) (links_in_order (links_at owners out edges v)) ≡ entries_of owners out edges v
  entries_here v =
      map-in_order (entry_from (without_ends edges)) (before_by link_order) (before_by entry_order) (λ a b. refl) (links_at owners out edges v)
      ∙ ap (in_order (before_by entry_order)) (entries_are (edges_at out edges v) (each_known out v edges edges 0 refl))

  entries_each : (vs : List ℕ) → map (λ ls. map (entry_from (without_ends edges)) ls) (map (λ v. links_in_order (links_at owners out edges v)) vs)
      ≡ map (λ v. entries_of owners out edges v) vs
  entries_each [] = refl
  entries_each (v ∷ vs) = rw (entries_here v, entries_each vs) refl

  -- the entries of lists
  pub entries_all : (numbers : List ℕ) (lists : Lists) (elements : List Element) → elements ≡ without_ends edges → HoldsLists owners out edges numbers lists
      → map (λ ls. map (entry_from elements) ls) (link_lists lists) ≡ map (λ v. entries_of owners out edges v) numbers
  entries_all numbers lists elements is holds = rw (is, holds.in_order) (entries_each numbers)

  pub a_list_each : (numbers : List ℕ) (lists : Lists) → HoldsLists owners out edges numbers lists → length lists.spans.items ≡ length numbers
  a_list_each numbers lists holds =
      sym (length-map lists.spans.items (linked lists.links.items)) ∙ ap length holds.in_order ∙ length-map numbers (λ v. links_in_order (links_at owners out edges v))
