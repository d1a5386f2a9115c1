-- Entries, as they are read out of links.
use Rattle.std.proofs.Common.{◌≡◌, ◌∙◌, sym, ap, refl, subst, arith, ℕ, zero, suc, ◌<◌, ◌==◌, ◌^◌, nat_eq, position, Bool, true, false, cond, ℤ, List, [], ◌∷◌, length, map, take, drop, slice_get, slice_index, Option, Some, None, IsSome, option_and_then}
use Rattle.std.proofs.lemmas.List.{length-map}
use Rattle.std.proofs.lemmas.Option.{slice_get-get_or, slice_get-map}
use Rattle.std.proofs.lemmas.List.Quantifiers.{position-Some}
use Rattle.std.specs.List.{AllByRecursion}
use Rattle.std.specs.Option.{option_map}
use Rattle.element_store.specs.Columns.{Cell}
use Rattle.element_store.specs.Elements.{Element}
use Rattle.partition.specs.Kept.{AreLists, IsPart, element_at, entry_from, entry_lists, link_lists, linked, no_element, part_in}
use Rattle.partition.specs.Parts.{Entry, adjacent_of, entry_at, link_of_entry, lists_of}
use Rattle.partition.specs.declared.adjacency.Lists.{Lists}
use Rattle.partition.specs.declared.adjacency.Span.{Span}
use Rattle.partition.specs.declared.link.Link.{Link}
use Rattle.partition.specs.declared.lists.Own.{Own}
use Rattle.partition.specs.declared.shared.Shared.{Shared}
use Rattle.partition.proofs.DealingFacts.{among_few, place_elsewhere, place_here}
use Rattle.partition.proofs.ListFacts.{own_below}

All-drop : {X : Type 0} (P : X → Type 0) (n : ℕ) (xs : List X) → AllByRecursion P xs → AllByRecursion P (drop n xs)
All-drop P zero xs all = all
All-drop P (suc n) [] all = tt
All-drop P (suc n) (x ∷ xs) all = All-drop P n xs all.1

All-take : {X : Type 0} (P : X → Type 0) (n : ℕ) (xs : List X) → AllByRecursion P xs → AllByRecursion P (take n xs)
All-take P zero xs all = tt
All-take P (suc n) [] all = tt
All-take P (suc n) (x ∷ xs) all = (all.0, All-take P n xs all.1)

All-get : {X : Type 0} (P : X → Type 0) (xs : List X) (i : ℕ) (x : X) → AllByRecursion P xs → slice_get xs i ≡ Some x → P x
All-get P [] i x all at = cc at
All-get P (y ∷ ys) zero x all at = let same : y ≡ x = cc at in subst P same all.0
All-get P (y ∷ ys) (suc i) x all at = All-get P ys i x all.1 at

abbrev pub link_there : Lists → ℕ → ℕ → Option Link
link_there a place n = option_and_then (λ links. slice_get links n) (slice_get (link_lists a) place)

-- what holds of all links holds of one that is read
leads_at : (P : Link → Type 0) (links : List Link) (spans : List Span) (place n : ℕ) (link : Link) → AllByRecursion P links
    → option_and_then (λ ls. slice_get ls n) (slice_get (map (linked links) spans) place) ≡ Some link → P link
leads_at P links [] place n link all at = cc at
leads_at P links (s ∷ ss) zero n link all at = All-get P (linked links s) n link (All-take P s.degree (drop s.start links) (All-drop P s.start links all)) at
leads_at P links (s ∷ ss) (suc place) n link all at = leads_at P links ss place n link all at

-- an entry is that of the link
entry_of_link : (es : List Element) (lists : List (List Link)) (place n : ℕ)
    → option_and_then (λ list. slice_get list n) (slice_get (map (λ links. map (entry_from es) links) lists) place)
    ≡ option_map (entry_from es) (option_and_then (λ links. slice_get links n) (slice_get lists place))
entry_of_link es [] place n = refl
entry_of_link es (l ∷ ls) zero n = slice_get-map (entry_from es) l n
entry_of_link es (l ∷ ls) (suc place) n = entry_of_link es ls place n

module _ (machines : ℕ) (shared : Shared) (own : Own) where
  -- ---- vertices

  pub numbers_few : IsPart shared own → length own.numbers.items < 2 ^ 32
  numbers_few part =
      let few = among_few shared.dealing.owners.items (length shared.dealing.owners.items) own.machine in
      omega (arith, few, ap length part.its_vertices, part.dealt.an_owner_each, part.few)

  -- ---- places

  pub place_found : IsPart shared own → (vertex place : ℕ) → vertex < length shared.dealing.owners.items → slice_index shared.dealing.owners.items vertex ≡ own.machine
      → place ≡ slice_index shared.dealing.places.items vertex → Some place ≡ position (nat_eq vertex) own.numbers.items
  place_found part vertex place less mine is =
      let within : vertex < length shared.vertices = omega (arith, less, part.dealt.an_owner_each) in
      rw (is, part.dealt.placed vertex within, part.its_vertices) (place_here shared.dealing.owners.items own.machine vertex less mine)

  pub place_absent : IsPart shared own → (vertex : ℕ) → vertex < length shared.dealing.owners.items → (slice_index shared.dealing.owners.items vertex == own.machine) ≡ false
      → None ≡ position (nat_eq vertex) own.numbers.items
  place_absent part vertex less other = rw part.its_vertices (place_elsewhere shared.dealing.owners.items own.machine vertex less other)

  pub place_within : (vertex place : ℕ) → Some place ≡ position (nat_eq vertex) own.numbers.items → place < length (part_in machines shared own).vertices
  place_within vertex place is = rw (length-map own.numbers.items (element_at shared.vertices)) (position-Some (nat_eq vertex) own.numbers.items place 0 (sym is)).0

  pub vertices_each : length (part_in machines shared own).vertices ≡ length own.numbers.items
  vertices_each = length-map own.numbers.items (element_at shared.vertices)

  pub number_within : IsPart shared own → (place number : ℕ) → slice_get own.numbers.items place ≡ Some number → number < length shared.vertices
  number_within part place number at =
      let below = rw (← part.its_vertices) at (own_below shared.dealing.owners.items own.machine) in
      let less = All-get (λ v. v < length shared.dealing.owners.items) own.numbers.items place number below at in
      omega (arith, less, part.dealt.an_owner_each)

  pub vertex_read : {V : Type 0} (f : Element → V) (place number : ℕ) (value : V) → slice_get own.numbers.items place ≡ Some number → number < length shared.vertices
      → option_map f (slice_get shared.vertices number) ≡ Some value → option_map f (slice_get (part_in machines shared own).vertices place) ≡ Some value
  vertex_read f place number value at less read =
      let there = rw (slice_get-get_or shared.vertices number no_element less) at read in
      rw (slice_get-map (element_at shared.vertices) own.numbers.items place, at) there

module _ (machines : ℕ) (shared : Shared) (own : Own) (a : Lists) (out : Bool) (is : a ≡ cond out own.outgoing own.incoming) where
  lists_in : (o : Bool) → lists_of o (part_in machines shared own) ≡ entry_lists shared.edges (cond o own.outgoing own.incoming)
  lists_in true = refl
  lists_in false = refl

  pub entry_in : (place n : ℕ) → entry_at out (part_in machines shared own) place n ≡ option_map (entry_from shared.edges) (link_there a place n)
  entry_in place n =
      ap (λ (lists : List (List Entry)). option_and_then (λ list. slice_get list n) (slice_get lists place)) (lists_in out)
      ∙ rw (← is) (entry_of_link shared.edges (link_lists a) place n)

  pub degree_in : (place : ℕ) (degree : ℕ) → option_map length (slice_get (link_lists a) place) ≡ Some degree
      → option_map length (slice_get (lists_of out (part_in machines shared own)) place) ≡ Some degree
  degree_in place degree at =
      ap (λ (lists : List (List Entry)). option_map length (slice_get lists place)) (lists_in out)
      ∙ rw (← is) (as_long (link_lists a) place ∙ at)
    where
      as_long : (lists : List (List Link)) (i : ℕ) → option_map length (slice_get (map (λ links. map (entry_from shared.edges) links) lists) i) ≡ option_map length (slice_get lists i)
      as_long [] i = refl
      as_long (l ∷ ls) zero = ap Some (length-map l (entry_from shared.edges))
      as_long (l ∷ ls) (suc i) = as_long ls i

  pub link_is_there : (place n : ℕ) → IsSome (entry_at out (part_in machines shared own) place n) → IsSome (link_there a place n)
  link_is_there place n some = by (link_there a place n) (subst IsSome (entry_in place n) some)
    where
      by : (o : Option Link) → IsSome (option_map (entry_from shared.edges) o) → IsSome o
      by None h = h
      by (Some link) h = h

  pub lists_fit : IsPart shared own → AreLists (length shared.edges) (length own.numbers.items) a
  lists_fit part = subst (AreLists (length shared.edges) (length own.numbers.items)) (sym is) (by out)
    where
      by : (o : Bool) → AreLists (length shared.edges) (length own.numbers.items) (cond o own.outgoing own.incoming)
      by true = part.outgoing_lists
      by false = part.incoming_lists

  pub link_fits : IsPart shared own → (place n : ℕ) (link : Link) → link_there a place n ≡ Some link → link.edge < length shared.edges
  link_fits part place n link at = leads_at (λ l. l.edge < length shared.edges) a.links.items a.spans.items place n link (lists_fit part).at_edges at

  pub link_read : (place n : ℕ) (link : Link) → link_there a place n ≡ Some link → option_map link_of_entry (entry_at out (part_in machines shared own) place n) ≡ Some link
  link_read place n link at = rw (entry_in place n, at) refl

  -- all links of a list
  pub links_read : (place : ℕ) (links : List Link) → slice_get (link_lists a) place ≡ Some links
      → option_map (map link_of_entry) (slice_get (lists_of out (part_in machines shared own)) place) ≡ Some links
  links_read place links at =
      ap (λ (lists : List (List Entry)). option_map (map link_of_entry) (slice_get lists place)) (lists_in out)
      ∙ rw (← is) (same (link_lists a) place ∙ at)
    where
      back : (ls : List Link) → map link_of_entry (map (entry_from shared.edges) ls) ≡ ls
      back [] = refl
      back (l ∷ ls) = ap (λ rest. l ∷ rest) (back ls)

      same : (lists : List (List Link)) (i : ℕ) → option_map (map link_of_entry) (slice_get (map (λ links. map (entry_from shared.edges) links) lists) i) ≡ slice_get lists i
      same [] i = refl
      same (l ∷ ls) zero = ap Some (back l)
      same (l ∷ ls) (suc i) = same ls i

  -- an entry as it is read
  pub entry_read : (place n : ℕ) (link : Link) (key : ℤ) → link_there a place n ≡ Some link → link.edge < length shared.edges
      → option_map (λ (e : Element). e.key) (slice_get shared.edges link.edge) ≡ Some key
      → option_map adjacent_of (entry_at out (part_in machines shared own) place n)
      ≡ Some (record { edge = link.edge; key = key; other = link.other; machine = link.machine; label = link.label })
  entry_read place n link key at less read =
      let known : (element_at shared.edges link.edge).key ≡ key = let there = rw (slice_get-get_or shared.edges link.edge no_element less) at read in cc there in
      rw (entry_in place n, at, known) refl

  pub value_read : {V : Type 0} (f : List (ℕ × Cell) → V) (place n : ℕ) (link : Link) (value : V) → link_there a place n ≡ Some link → link.edge < length shared.edges
      → option_map (λ (e : Element). f e.values) (slice_get shared.edges link.edge) ≡ Some value
      → option_map (λ (e : Entry). f e.values) (entry_at out (part_in machines shared own) place n) ≡ Some value
  value_read f place n link value at less read =
      let there = rw (slice_get-get_or shared.edges link.edge no_element less) at read in
      rw (entry_in place n, at) there

-- an element's values, by its row
pub values_of_row : (o : Option Element) (row : ℕ × List (ℕ × Cell)) → option_map {U = ℕ × List (ℕ × Cell)} (λ (e : Element). (e.label, e.values)) o ≡ Some row → option_map (λ (e : Element). e.values) o ≡ Some row.1
values_of_row None row e = cc e
values_of_row (Some element) row e = ap (option_map {T = ℕ × List (ℕ × Cell)} (λ r. r.1)) e

pub within_list : {X : Type 0} (lists : List (List X)) (place degree : ℕ) → option_map length (slice_get lists place) ≡ Some degree → (n : ℕ) → n < degree
    → IsSome (option_and_then (λ list. slice_get list n) (slice_get lists place))
within_list {X} lists place degree at n less = by (slice_get lists place) at
  where
    found : (xs : List X) (i : ℕ) → i < length xs → IsSome (slice_get xs i)
    found [] i h = absurd (omega arith)
    found (x ∷ xs) zero h = refl
    found (x ∷ xs) (suc i) h = found xs i (omega arith)

    by : (o : Option (List X)) → option_map length o ≡ Some degree → IsSome (option_and_then (λ list. slice_get list n) o)
    by None e = cc e
    by (Some xs) e = let size : length xs ≡ degree = cc e in found xs n (omega (arith, less))

-- a vertex's key and label, read one after the other
pub both_read : (o : Option Element) (key : ℤ) (label : ℕ) → option_map (λ (e : Element). e.key) o ≡ Some key → option_map (λ (e : Element). e.label) o ≡ Some label
    → option_map {U = ℤ × ℕ} (λ (e : Element). (e.key, e.label)) o ≡ Some (key, label)
both_read None key label a b = cc a
both_read (Some e) key label a b = let k : e.key ≡ key = cc a in let l : e.label ≡ label = cc b in rw (k, l) refl
