-- What the first numbers of an assignment rule out.
use Rattle.std.proofs.Common.{◌≡◌, ℕ, ◌+◌, ◌-◌, ◌<◌, ◌==◌, ◌&&◌, ◌||◌, Bool, true, false, List, [], ◌∷◌, ◌++◌, length, map, Option, Some, None, refl, sym, ap, arith, subst, ◌∙◌, zero, suc}
use Rattle.std.specs.List.{list_all, range_with_len, slice_get}
use Rattle.std.specs.Option.{option_and_then, option_map_or}
use Rattle.std.proofs.lemmas.Option.{slice_get_within}
use Rattle.graph_tables.specs.Graph.{Edge, PropertyGraph}
use Rattle.typed_query.specs.Val.{passes, val}
use Rattle.typed_query.specs.declared.query.EdgeJoin.{EdgeJoin}
use Rattle.typed_query.specs.declared.query.Query.{Query}
use Rattle.typed_query.specs.declared.query.Variable.{Variable}
use Rattle.pgql_meaning.specs.Assignments.{extensions}
use Rattle.pgql_meaning.specs.Captured.{captured, number_of}
use Rattle.pgql_meaning.specs.Fits.{Labels, Joined, Holds, fits, is_joined, is_labelled, is_number, meets, runs_between}
use Rattle.pgql_meaning.specs.Pruned.{may_be, may_fit, may_join, may_label, may_label_at, may_run}
use Rattle.pgql_meaning.proofs.Extensions.{extensions-none}

-- ---- truth values

or_true : (a b : Bool) → b ≡ true → (a || b) ≡ true
or_true true b is = refl
or_true false b is = is

-- ---- all of a list

both : (a b : Bool) → (a && b) ≡ true → (a ≡ true) × (b ≡ true)
both true true p = (refl, refl)
both true false p = absurd cc
both false b p = absurd cc

all-append : {X : Type 0} (p : X → Bool) (xs ys : List X) → list_all p (xs ++ ys) ≡ true → (list_all p xs ≡ true) × (list_all p ys ≡ true)
all-append p [] ys all = (refl, all)
all-append p (x ∷ xs) ys all =
    let here = both (p x) (list_all p (xs ++ ys)) all in
    let rest = all-append p xs ys here.1 in
    (rw (here.0, rest.0) refl, rest.1)

all-map : {X Y : Type 0} (p : Y → Bool) (f : X → Y) (q : X → Bool) (xs : List X) → ((x : X) → p (f x) ≡ true → q x ≡ true) → list_all p (map f xs) ≡ true → list_all q xs ≡ true
all-map p f q [] leads all = refl
all-map p f q (x ∷ xs) leads all =
    let here = both (p (f x)) (list_all p (map f xs)) all in
    rw (leads x here.0, all-map p f q xs leads here.1) refl

-- of all numbers one
one_of_range : (p : ℕ → Bool) (from n i : ℕ) → i < n → list_all p (range_with_len from n) ≡ true → p (from + i) ≡ true
one_of_range p from zero i below all = absurd (omega (arith, below))
one_of_range p from (suc n) zero below all =
    subst (λ k. p k ≡ true) (omega arith) (both (p from) (list_all p (range_with_len (from + 1) n)) all).0
one_of_range p from (suc n) (suc i) below all =
    subst (λ k. p k ≡ true) (omega arith) (one_of_range p (from + 1) n i (omega (arith, below)) (both (p from) (list_all p (range_with_len (from + 1) n)) all).1)

-- ---- the numbers of the front

number_of-front : (front rest : List ℕ) (i n : ℕ) → slice_get front i ≡ Some n → slice_get (front ++ rest) i ≡ Some n
number_of-front [] rest i n is = absurd cc
number_of-front (x ∷ front) rest zero n is = is
number_of-front (x ∷ front) rest (suc i) n is = number_of-front front rest i n is

-- ---- edges

be : (front rest : List ℕ) (i number : ℕ) (found : Option ℕ) → slice_get front i ≡ found → is_number (slice_get (front ++ rest) i) number ≡ true → may_be found number ≡ true
be front rest i number None is passes = refl
be front rest i number (Some n) is passes = let whole = number_of-front front rest i n is in ap (λ found. is_number found number) (sym whole) ∙ passes

runs : (front rest : List ℕ) (join : EdgeJoin) (edge : Edge) → runs_between (number_of (front ++ rest) join.source) (number_of (front ++ rest) join.target) edge ≡ true
    → may_run (number_of front join.source) (number_of front join.target) edge ≡ true
runs front rest join edge passes =
    let each = both (is_number (number_of (front ++ rest) join.source) edge.source) (is_number (number_of (front ++ rest) join.target) edge.target) passes in
    rw (be front rest join.source edge.source (slice_get front join.source) refl each.0, be front rest join.target edge.target (slice_get front join.target) refl each.1) refl

joins_at : (graph : PropertyGraph) (front rest : List ℕ) (join : EdgeJoin) (found : Option Edge)
    → option_map_or (runs_between (number_of (front ++ rest) join.source) (number_of (front ++ rest) join.target)) found false ≡ true
    → option_map_or (may_run (number_of front join.source) (number_of front join.target)) found false ≡ true
joins_at graph front rest join None passes = absurd cc
joins_at graph front rest join (Some edge) passes = runs front rest join edge passes

joins_by : (graph : PropertyGraph) (front rest : List ℕ) (join : EdgeJoin) (assigned : Option ℕ) → slice_get front join.edge ≡ assigned
    → option_map_or (runs_between (number_of (front ++ rest) join.source) (number_of (front ++ rest) join.target)) (option_and_then (slice_get graph.edges) (number_of (front ++ rest) join.edge)) false ≡ true
    → option_map_or (λ e. option_map_or (may_run (number_of front join.source) (number_of front join.target)) (slice_get graph.edges e) false) assigned true ≡ true
joins_by graph front rest join None is passes = refl
joins_by graph front rest join (Some e) is passes =
    let whole = number_of-front front rest join.edge e is in
    joins_at graph front rest join (slice_get graph.edges e)
    (ap (λ found. option_map_or (runs_between (number_of (front ++ rest) join.source) (number_of (front ++ rest) join.target)) (option_and_then (slice_get graph.edges) found) false) (sym whole) ∙ passes)

joins : (graph : PropertyGraph) (front rest : List ℕ) (join : EdgeJoin) → is_joined graph (front ++ rest) join ≡ true → may_join graph front join ≡ true
joins graph front rest join passes = joins_by graph front rest join (slice_get front join.edge) refl passes

-- ---- labels

number_of-same : (front rest : List ℕ) (i : ℕ) → i < length front → slice_get (front ++ rest) i ≡ slice_get front i
number_of-same [] rest i low = absurd (omega (arith, low))
number_of-same (x ∷ front) rest zero low = refl
number_of-same (x ∷ front) rest (suc i) low = number_of-same front rest i (omega (arith, low))

labels_at : (texts : List (List ℕ)) (graph : PropertyGraph) (query : Query) (front rest : List ℕ) (place : ℕ) (found : Option Variable)
    → slice_get query.variables place ≡ found → place < length front
    → (place < length query.variables → is_labelled texts graph query (front ++ rest) place ≡ true) → may_label_at texts graph query front place ≡ true
labels_at texts graph query front rest place None is low passes = rw is refl
labels_at texts graph query front rest place (Some x) is low passes =
    let whole = passes (slice_get_within query.variables place x is) in
    let same : is_labelled texts graph query (front ++ rest) place ≡ may_label_at texts graph query front place = rw (is, number_of-same front rest place low) refl in
    sym same ∙ whole

labels : (texts : List (List ℕ)) (graph : PropertyGraph) (query : Query) (front rest : List ℕ)
    → ((place : ℕ) → place < length query.variables → is_labelled texts graph query (front ++ rest) place ≡ true) → may_label texts graph query front ≡ true
labels texts graph query [] rest passes = refl
labels texts graph query (x ∷ front) rest passes =
    let place = length (x ∷ front) - 1 in
    let here = labels_at texts graph query (x ∷ front) rest place (slice_get query.variables place) refl (omega arith) (passes place) in
    or_true (length (x ∷ front) == 0) (may_label_at texts graph query (x ∷ front) place) here

-- ---- both

-- what fits may fit
may : (texts : List (List ℕ)) (graph : PropertyGraph) (query : Query) (front rest : List ℕ)
    → fits texts graph query (front ++ rest) ≡ true → may_fit texts graph query front ≡ true
may texts graph query front rest fit =
    let whole = front ++ rest in
    let count = length query.variables in
    let parts = all-append (meets texts graph query whole) (map Labels (range_with_len 0 count)) (map Joined query.edges ++ map Holds query.conjuncts) fit in
    let edges = all-append (meets texts graph query whole) (map Joined query.edges) (map Holds query.conjuncts) parts.1 in
    let each = all-map (meets texts graph query whole) Labels (is_labelled texts graph query whole) (range_with_len 0 count) (λ i p. p) parts.0 in
    let labelled = labels texts graph query front rest (λ place below'. subst (λ k. is_labelled texts graph query whole k ≡ true) (omega arith) (one_of_range (is_labelled texts graph query whole) 0 count place below' each)) in
    let joined = all-map (meets texts graph query whole) Joined (may_join graph front) query.edges (λ join p. joins graph front rest join p) edges.0 in
    rw (labelled, joined) refl

not_may : (fit may : Bool) → (fit ≡ true → may ≡ true) → may ≡ false → fit ≡ false
not_may true m leads ruled_out = let passes = leads refl in absurd (cc (passes, ruled_out))
not_may false m leads ruled_out = refl

-- nothing that begins so fits where the first numbers rule it out
pub nothing_fits : (texts : List (List ℕ)) (graph : PropertyGraph) (query : Query) (front ranges : List ℕ) → may_fit texts graph query front ≡ false
    → extensions (fits texts graph query) front ranges ≡ []
nothing_fits texts graph query front ranges ruled_out =
    extensions-none (fits texts graph query) front ranges
    (λ rest. not_may (fits texts graph query (front ++ rest)) (may_fit texts graph query front) (may texts graph query front rest) ruled_out)

-- ---- all tests at once

all_of : {X Y : Type 0} (p : Y → Bool) (f : X → Y) (xs : List X) → list_all p (map f xs) ≡ list_all (λ x. p (f x)) xs
all_of p f [] = refl
all_of p f (x ∷ xs) = rw (all_of p f xs) refl

all_of_both : {X : Type 0} (p : X → Bool) (xs ys : List X) → list_all p (xs ++ ys) ≡ (list_all p xs && list_all p ys)
all_of_both p [] ys = refl
all_of_both p (x ∷ xs) ys = rw (all_of_both p xs ys) (and_assoc (p x) (list_all p xs) (list_all p ys)) where
  and_assoc : (a b c : Bool) → (a && (b && c)) ≡ ((a && b) && c)
  and_assoc true b c = refl
  and_assoc false b c = refl

-- labels, edges and the parts of the condition
pub fits-by_parts : (texts : List (List ℕ)) (graph : PropertyGraph) (query : Query) (assignment : List ℕ)
    → fits texts graph query assignment
    ≡ (list_all (is_labelled texts graph query assignment) (range_with_len 0 (length query.variables))
    && (list_all (is_joined graph assignment) query.edges && list_all (λ e. passes (val texts (captured graph query assignment) e)) query.conjuncts))
fits-by_parts texts graph query assignment =
    let test = meets texts graph query assignment in
    all_of_both test (map Labels (range_with_len 0 (length query.variables))) (map Joined query.edges ++ map Holds query.conjuncts)
    ∙ rw (all_of_both test (map Joined query.edges) (map Holds query.conjuncts), all_of test Labels (range_with_len 0 (length query.variables)), all_of test Joined query.edges, all_of test Holds query.conjuncts) refl

-- three tests, one after the other
module _ (texts : List (List ℕ)) (graph : PropertyGraph) (query : Query) (assignment : List ℕ) where
  abbrev pub all_labelled : Bool
  all_labelled = list_all (is_labelled texts graph query assignment) (range_with_len 0 (length query.variables))

  abbrev pub all_joined : Bool
  all_joined = list_all (is_joined graph assignment) query.edges

  abbrev pub all_hold : Bool
  all_hold = list_all (λ e. passes (val texts (captured graph query assignment) e)) query.conjuncts

  pub fails_by_labels : all_labelled ≡ false → false ≡ fits texts graph query assignment
  fails_by_labels fails = sym (fits-by_parts texts graph query assignment ∙ ap (λ b. b && (all_joined && all_hold)) fails)

  pub fails_by_joins : all_labelled ≡ true → all_joined ≡ false → false ≡ fits texts graph query assignment
  fails_by_joins labelled fails = sym (fits-by_parts texts graph query assignment ∙ ap (λ b. b && (all_joined && all_hold)) labelled ∙ ap (λ b. b && all_hold) fails)

  pub fits_where_holds : all_labelled ≡ true → all_joined ≡ true → all_hold ≡ fits texts graph query assignment
  fits_where_holds labelled joined = sym (fits-by_parts texts graph query assignment ∙ ap (λ b. b && (all_joined && all_hold)) labelled ∙ ap (λ b. b && all_hold) joined)
