-- What is ahead of a place in a list of entries.
use Rattle.std.proofs.Common.{◌≡◌, ℕ, zero, suc, ◌+◌, ◌<◌, ◌≤◌, Bool, true, false, cond, ◌==◌, ◌&&◌, ◌||◌, not, List}
use Rattle.std.proofs.Common.{[], ◌∷◌, length, get_or, drop, map, filter, Option, Some, None, refl, sym, ap, ap₂, ◌∙◌, arith}
use Rattle.std.specs.Prelude.{slice_get, slice_index, unwrap_or}
use Rattle.std.specs.List.{list_all}
use Rattle.std.specs.Option.{option_and_then, option_map, option_map_or}
use Rattle.std.proofs.lemmas.Option.{slice_get_past}
use Rattle.match_context.specs.Tree.{Below, Item, Leaf, Pass, answer}
use Rattle.match_context.specs.declared.expand.Next.{Next}
use Rattle.match_context.specs.declared.expand.Next.TheVariants.{End, Skip}
use Rattle.partition.specs.Parts.{Entry, MachinePart, link_of_entry, entry_at, lists_of}
use Rattle.partition.specs.declared.link.Link.{Link}
use Rattle.typed_expr.specs.declared.query.Query.{Query}
use Rattle.stage_plan.specs.declared.hop.Hop.TheVariants as hop
use Rattle.stage_plan.specs.declared.stage.Gains.{Gains}
use Rattle.stage_plan.specs.declared.stage.Stage.{Stage}
use Rattle.plan_tree.specs.Answers.{along, child_or_pass, edge_in, entries_in, hop_items, if_any, is_vertex, items_of, others, place_in, to_bound, to_neighbour}
use Rattle.plan_tree.specs.Told.{all_told, with_number}
use Rattle.hop_kernels.specs.Entries.{after_answer, answer_along}
use Rattle.hop_kernels.specs.Looks.{one_answer}
use Rattle.hop_kernels.specs.Spots.{no_element, no_entry}

answer-head : (i : Item) (is : List Item) → answer (i ∷ is) ≡ one_answer i
answer-head (Below context machine) is = refl
answer-head (Leaf context) is = refl
answer-head Pass is = refl

abbrev pub answer_at : {X : Type 0} → (X → Item) → Option X → Next
answer_at f None = End
answer_at f (Some x) = one_answer (f x)

-- the answer at a place is that of the entry there
pub answer-drop : {X : Type 0} (f : X → Item) (xs : List X) (p : ℕ) → answer (drop p (map f xs)) ≡ answer_at f (slice_get xs p)
answer-drop f [] zero = refl
answer-drop f [] (suc p) = refl
answer-drop f (x ∷ xs) zero = answer-head (f x) (map f xs)
answer-drop f (x ∷ xs) (suc p) = answer-drop f xs p

-- a place is left after where there is an answer
pub if_any-answer : {X : Type 0} (is : List Item) (none some : X) → if_any is none some ≡ after_answer (answer is) none some
if_any-answer [] none some = refl
if_any-answer (Below context machine ∷ is) none some = refl
if_any-answer (Leaf context ∷ is) none some = refl
if_any-answer (Pass ∷ is) none some = refl

-- the entries of a vertex are those of the list at its place
pub entries-found : (out : Bool) (part : MachinePart) (vertex place number : ℕ) → place_in part vertex ≡ Some place
    → slice_get (entries_in out part vertex) number ≡ entry_at out part place number
entries-found out part vertex place number found =
    ap (λ o. slice_get (option_map_or (λ entries. entries) (option_and_then (slice_get (lists_of out part)) o) []) number) found
    ∙ at_list (slice_get (lists_of out part) place)
  where
    at_list : (o : Option (List Entry)) → slice_get (option_map_or (λ entries. entries) o []) number ≡ option_and_then (λ (list : List Entry). slice_get list number) o
    at_list None = refl
    at_list (Some list) = refl

pub entries-none : (out : Bool) (part : MachinePart) (vertex number : ℕ) → place_in part vertex ≡ None → slice_get (entries_in out part vertex) number ≡ None
entries-none out part vertex number none =
    ap (λ o. slice_get (option_map_or (λ entries. entries) (option_and_then (slice_get (lists_of out part)) o) []) number) none

-- no entry stands past the end of a list
pub entry-past : (out : Bool) (part : MachinePart) (place number count : ℕ) → option_map length (slice_get (lists_of out part) place) ≡ Some count → count ≤ number
    → entry_at out part place number ≡ None
entry-past out part place number count is past = at_list (slice_get (lists_of out part) place) is where
  at_list : (o : Option (List Entry)) → option_map length o ≡ Some count → option_and_then (λ (list : List Entry). slice_get list number) o ≡ None
  at_list None here = refl
  at_list (Some list) here = slice_get_past list number (let same : length list ≡ count = cc in omega arith)

-- those that are passed over may as well be tested
pub all-others : (passed test : ℕ → Bool) (ps : List ℕ) → list_all test (filter (λ p. not (passed p)) ps) ≡ list_all (λ p. passed p || test p) ps
all-others passed test [] = refl
all-others passed test (p ∷ ps) = at_answer (passed p) (all-others passed test ps) where
  at_answer : (b : Bool) → list_all test (filter (λ p. not (passed p)) ps) ≡ list_all (λ p. passed p || test p) ps
      → list_all test (cond (not b) (p ∷ filter (λ p. not (passed p)) ps) (filter (λ p. not (passed p)) ps)) ≡ ((b || test p) && list_all (λ p. passed p || test p) ps)
  at_answer true later = later
  at_answer false later = ap (λ b. test p && b) later

-- the first of the items that are left
pub drop-here : (xs : List ℕ) (i : ℕ) → i < length xs → drop i xs ≡ get_or xs i 0 ∷ drop (i + 1) xs
drop-here [] i below = absurd (omega arith)
drop-here (x ∷ xs) zero below = refl
drop-here (x ∷ xs) (suc i) below =
    drop-here xs i (omega arith) ∙ ap (λ n. get_or xs i 0 ∷ drop n (x ∷ xs)) (let e : suc (i + 1) ≡ suc i + 1 = omega arith in e)

pub all-fails : (test : ℕ → Bool) (xs : List ℕ) (i : ℕ) → i < length xs → test (get_or xs i 0) ≡ false → list_all test (drop i xs) ≡ false
all-fails test xs i below fails = ap (list_all test) (drop-here xs i below) ∙ ap (λ b. b && list_all test (drop (i + 1) xs)) fails

pub all-goes_on : (test : ℕ → Bool) (xs : List ℕ) (i : ℕ) (all : Bool) → i < length xs → test (get_or xs i 0) ≡ true → list_all test (drop i xs) ≡ all
    → list_all test (drop (i + 1) xs) ≡ all
all-goes_on test xs i all below passes is =
    ap (λ b. b && list_all test (drop (i + 1) xs)) (sym passes) ∙ sym (ap (list_all test) (drop-here xs i below)) ∙ is

pub entry-is : (o : Option Entry) (entry : Link) → option_map link_of_entry o ≡ Some entry → link_of_entry (unwrap_or o no_entry) ≡ entry
entry-is None entry is = cc
entry-is (Some e) entry is = cc

-- what is ahead at a hop to a new vertex
pub neighbour-ahead : (texts : List (List ℕ)) (q : Query) (part : MachinePart) (stage : Stage) (words : List ℕ) (out : Bool) (edge to number : ℕ)
    → stage.hop ≡ hop.Neighbour out edge to → all_told texts q words (others q edge stage.passage.reads) ≡ true
    → answer (drop number (items_of texts q part stage words))
    ≡ answer_at (to_neighbour texts q stage.passage edge to words) (slice_get (entries_in out part (slice_index words (1 + stage.current))) number)
neighbour-ahead texts q part stage words out edge to number is told =
    ap (λ h. answer (drop number (hop_items texts q part stage words h))) is
    ∙ ap (λ b. answer (drop number (cond b (map (to_neighbour texts q stage.passage edge to words) (entries_in out part (slice_index words (1 + stage.current)))) []))) told
    ∙ answer-drop (to_neighbour texts q stage.passage edge to words) (entries_in out part (slice_index words (1 + stage.current))) number

-- and at one to a vertex that is bound
pub bound-ahead : (texts : List (List ℕ)) (q : Query) (part : MachinePart) (stage : Stage) (words : List ℕ) (out : Bool) (edge to number : ℕ)
    → stage.hop ≡ hop.Edge out edge to → is_vertex part (slice_index words (1 + to)) ≡ true → all_told texts q words (others q edge stage.passage.reads) ≡ true
    → answer (drop number (items_of texts q part stage words))
    ≡ answer_at (to_bound texts q stage.passage edge to words) (slice_get (entries_in out part (slice_index words (1 + stage.current))) number)
bound-ahead texts q part stage words out edge to number is vertex told =
    ap (λ h. answer (drop number (hop_items texts q part stage words h))) is
    ∙ ap₂ (λ a b. answer (drop number (cond (a && b) (map (to_bound texts q stage.passage edge to words) (entries_in out part (slice_index words (1 + stage.current)))) []))) vertex told
    ∙ answer-drop (to_bound texts q stage.passage edge to words) (entries_in out part (slice_index words (1 + stage.current))) number

-- an entry is passed over where its other end isn't the bound one
pub bound-at : (texts : List (List ℕ)) (q : Query) (gains : Gains) (edge to : ℕ) (words : List ℕ) (entry : Entry) (b : Bool) → (entry.other == slice_index words (1 + to)) ≡ b
    → one_answer (to_bound texts q gains edge to words entry) ≡ cond b (answer_along texts q gains edge None words entry) Skip
bound-at texts q gains edge to words entry b is =
    ap (λ c. one_answer (cond c (child_or_pass (along texts q gains edge (edge_in entry) (with_number edge entry.edge words)) entry.machine) Pass)) is ∙ at_answer b
  where
    at_answer : (c : Bool) → one_answer (cond c (child_or_pass (along texts q gains edge (edge_in entry) (with_number edge entry.edge words)) entry.machine) Pass)
        ≡ cond c (answer_along texts q gains edge None words entry) Skip
    at_answer true = refl
    at_answer false = refl

-- the edge of an entry that is there
pub edge-is : (o : Option Entry) → unwrap_or (option_map edge_in o) no_element ≡ edge_in (unwrap_or o no_entry)
edge-is None = refl
edge-is (Some e) = refl
