-- What the words of a context tell of an assignment stays true as one binds, arrives and tests.
use Rattle.std.proofs.Common.{◌≡◌, ℕ, zero, suc, ◌+◌, ◌<◌, ◌≤◌, ◌⊎◌, Bool, true, false, cond, not, ◌&&◌, ◌||◌, ◌==◌, eqb, List, [], ◌∷◌, ◌++◌, length, map, get_or, set}
use Rattle.std.proofs.Common.{Option, Some, None, refl, sym, ap, ap₂, ◌∙◌, subst, arith, true≢false, inl, inr, length-set, get_or-set_same, get_or-set_other, slice_index_or}
use Rattle.std.specs.Prelude.{slice_get}
use Rattle.std.specs.Int.{bit_at}
use Rattle.std.specs.List.{AllByRecursion, list_all}
use Rattle.std.specs.Option.{option_and_then, option_map_or}
use Rattle.std.proofs.lemmas.Bool.{and_from, and_parts, cases_eq, eqb-true, eqb-false, eq-eqb, ne_eqb}
use Rattle.adfs_base.specs.declared.value.Kind.{Kind}
use Rattle.adfs_base.specs.declared.value.Kind.TheVariants as kind
use Rattle.adfs_base.specs.declared.value.Value.{Value}
use Rattle.adfs_base.specs.declared.value.Value.TheVariants as value
use Rattle.element_store.specs.Columns.{value_of}
use Rattle.element_store.specs.Elements.{Element}
use Rattle.element_store.specs.Words.{value_from, word_from}
use Rattle.graph_tables.specs.Graph.{IsShown, PropertyGraph, without_ends}
use Rattle.match_context.specs.Words.{captured_in}
use Rattle.pgql_meaning.specs.Captured.{captured, captured_value, element_at, element_of, use_of}
use Rattle.pgql_meaning.specs.Fits.{Holds, Labels, has_labels, meets}
use Rattle.pgql_meaning.specs.Shown.{HasShown}
use Rattle.result_collect.specs.Contexts.{kind_of, values_from}
use Rattle.typed_expr.specs.Parts.{captures}
use Rattle.typed_expr.specs.Val.{passes}
use Rattle.typed_expr.specs.declared.query.Capture.{Capture}
use Rattle.typed_expr.specs.declared.query.Query.{Query}
use Rattle.typed_expr.specs.declared.query.Variable.{Variable}
use Rattle.typed_expr.specs.declared.query.What.{What}
use Rattle.typed_expr.specs.declared.query.What.TheVariants as what
use Rattle.value_text.specs.Valid.{IsValid}
use Rattle.stage_plan.specs.Moves.{is_edge}
use Rattle.stage_plan.specs.Walk.{captures_of, conjunct_at, is_known, is_whole, places_from, uses, whole}
use Rattle.plan_tree.specs.Answers.{all_hold, holds, is_of, labels_of, others}
use Rattle.plan_tree.specs.Told.{AreTold, AreToldOf, IsTold, all_told, elements_for, is_told, is_told_at, is_valid, is_word, values, with_number, word_at, word_of, written}
use Rattle.plan_tree.proofs.Agree.{at}
use Rattle.plan_tree.proofs.Days.{valid-found}
use Rattle.plan_tree.proofs.Values.{IsSame, val-same}
use Rattle.plan_tree.proofs.Words.{captured-written, length-written, number-written, stands_in}

abbrev pub HasRoom : Query → Type 0
HasRoom q = 1 + length q.variables + length q.captures ≤ 40

-- The words have the numbers of the assignment, and the captured values of the variables that are known.
pub record Tells (g : PropertyGraph) (q : Query) (known : List Bool) (c words : List ℕ) : Type 0 where
  pub size : length words ≡ 40
  pub numbers : (v : ℕ) → v < length q.variables → get_or words (1 + v) 0 ≡ at c v
  pub captures : (place : ℕ) (x : Capture) → slice_get q.captures place ≡ Some x → get_or known x.variable false ≡ true
      → captured_in words (length q.variables) place ≡ word_from (kind_of x.what) (captured_value g q c x)

pub get-set_other : (xs : List ℕ) (i j x : ℕ) → (j ≡ i → ⊥) → slice_get (set xs i x) j ≡ slice_get xs j
get-set_other [] i j x other = refl
get-set_other (y ∷ ys) zero zero x other = absurd (other refl)
get-set_other (y ∷ ys) zero (suc j) x other = refl
get-set_other (y ∷ ys) (suc i) zero x other = refl
get-set_other (y ∷ ys) (suc i) (suc j) x other = get-set_other ys i j x (λ e. other (ap suc e))

pub get-at : (xs : List ℕ) (v : ℕ) → v < length xs → slice_get xs v ≡ Some (at xs v)
get-at [] v below = absurd (omega arith)
get-at (x ∷ xs) zero below = refl
get-at (x ∷ xs) (suc v) below = get-at xs v (omega arith)

pub get-low : {X : Type 0} (xs : List X) (i : ℕ) (x : X) → slice_get xs i ≡ Some x → i < length xs
get-low [] i x found = cc
get-low (y ∷ ys) zero x found = omega arith
get-low (y ∷ ys) (suc i) x found = let later = get-low ys i x found in omega arith

pub all-get : {X : Type 0} (P : X → Type 0) (xs : List X) (i : ℕ) (x : X) → AllByRecursion P xs → slice_get xs i ≡ Some x → P x
all-get P [] i x all found = cc
all-get P (y ∷ ys) zero x all found = let same : y ≡ x = cc in subst P same all.0
all-get P (y ∷ ys) (suc i) x all found = all-get P ys i x all.1 found

-- a variable that is bound changes no capture of another
captured-free : (g : PropertyGraph) (q : Query) (c : List ℕ) (v i : ℕ) (x : Capture) → (x.variable ≡ v → ⊥)
    → captured_value g q (set c v i) x ≡ captured_value g q c x
captured-free g q c v i x other =
    ap (λ n. option_map_or (use_of x.what) (option_and_then (λ (y : Variable). option_and_then (element_at g y) n) (slice_get q.variables x.variable)) value.Null)
    (get-set_other c v x.variable i other)

pub tells-number : (g : PropertyGraph) (q : Query) (known : List Bool) (c words : List ℕ) (v i : ℕ) → HasRoom q → Tells g q known c words
    → length c ≡ length q.variables → v < length q.variables → get_or known v false ≡ false → Tells g q known (set c v i) (with_number v i words)
tells-number g q known c words v i room tells sizes below free = record {
  size = length-set words (1 + v) i ∙ tells.size;
  numbers = λ u low. at_side u low (cases_eq u v);
  captures = λ place x found is_known.
      ap₂ (λ a b. cond (eqb (bit_at a place) 1) None (Some b))
      (get_or-set_other words (1 + v) 0 i 0 (λ e. omega arith))
      (get_or-set_other words (1 + v) (1 + length q.variables + place) i 0 (λ e. omega arith))
      ∙ tells.captures place x found is_known
      ∙ ap (word_from (kind_of x.what)) (sym (captured-free g q c v i x
      (λ same. true≢false (sym is_known ∙ ap (λ n. get_or known n false) same ∙ free))));
} where
  at_side : (u : ℕ) → u < length q.variables → (u ≡ v) ⊎ (u ≡ v → ⊥) → get_or (set words (1 + v) i) (1 + u) 0 ≡ at (set c v i) u
  at_side u low (inl same) =
      ap (λ n. get_or (set words (1 + v) i) (1 + n) 0) same
      ∙ get_or-set_same words (1 + v) i 0 (let size = tells.size in omega arith)
      ∙ sym (ap (at (set c v i)) same ∙ get_or-set_same c v i 0 (omega arith))
  at_side u low (inr other) =
      get_or-set_other words (1 + v) (1 + u) i 0 (λ e. other (omega arith)) ∙ tells.numbers u low ∙ sym (get_or-set_other c v u i 0 other)

-- a capture of the variable stands among its places
pub places-in : (cs : List Capture) (k v j : ℕ) (x : Capture) → slice_get cs j ≡ Some x → stands_in (k + j) (places_from k v cs) ≡ eqb x.variable v
places-in [] k v j x found = cc
places-in (y ∷ cs) k v zero x found =
    let same : y ≡ x = cc in
    at_answer (eqb y.variable v) refl ∙ ap (λ (z : Capture). eqb z.variable v) same
  where
    before : (cs : List Capture) (k n : ℕ) → n < k → stands_in n (places_from k v cs) ≡ false
    before [] k n less = refl
    before (z ∷ cs) k n less = one (eqb z.variable v) (before cs (k + 1) n (omega arith)) where
      one : (b : Bool) → stands_in n (places_from (k + 1) v cs) ≡ false → stands_in n (cond b (k ∷ places_from (k + 1) v cs) (places_from (k + 1) v cs)) ≡ false
      one true later = ap (λ b. b || stands_in n (places_from (k + 1) v cs)) (ne_eqb n k (λ e. omega arith)) ∙ later
      one false later = later

    at_answer : (b : Bool) → eqb y.variable v ≡ b → stands_in (k + zero) (cond b (k ∷ places_from (k + 1) v cs) (places_from (k + 1) v cs)) ≡ eqb y.variable v
    at_answer true is = ap (λ b. b || stands_in (k + zero) (places_from (k + 1) v cs)) (eq-eqb (k + zero) k (let e : k + 0 ≡ k = omega arith in e)) ∙ sym is
    at_answer false is = before cs (k + 1) (k + zero) (omega arith) ∙ sym is
places-in (y ∷ cs) k v (suc j) x found = at_answer (eqb y.variable v) (places-in cs (k + 1) v j x found) where
  shift : stands_in (k + suc j) (places_from (k + 1) v cs) ≡ stands_in (k + 1 + j) (places_from (k + 1) v cs)
  shift = ap (λ n. stands_in n (places_from (k + 1) v cs)) (let e : k + suc j ≡ k + 1 + j = omega arith in e)

  at_answer : (b : Bool) → stands_in (k + 1 + j) (places_from (k + 1) v cs) ≡ eqb x.variable v
      → stands_in (k + suc j) (cond b (k ∷ places_from (k + 1) v cs) (places_from (k + 1) v cs)) ≡ eqb x.variable v
  at_answer true later =
      ap (λ b. b || stands_in (k + suc j) (places_from (k + 1) v cs)) (ne_eqb (k + suc j) k (λ e. omega arith)) ∙ shift ∙ later
  at_answer false later = shift ∙ later

pub places-low : (cs : List Capture) (k v : ℕ) → AllByRecursion (λ p. p < k + length cs) (places_from k v cs)
places-low [] k v = tt
places-low (y ∷ cs) k v = at_answer (eqb y.variable v) (subst (λ n. AllByRecursion (λ p. p < n) (places_from (k + 1) v cs)) (let e : k + 1 + length cs ≡ k + suc (length cs) = omega arith in e) (places-low cs (k + 1) v)) where
  at_answer : (b : Bool) → AllByRecursion (λ p. p < k + suc (length cs)) (places_from (k + 1) v cs)
      → AllByRecursion (λ p. p < k + suc (length cs)) (cond b (k ∷ places_from (k + 1) v cs) (places_from (k + 1) v cs))
  at_answer true later = (omega arith, later)
  at_answer false later = later

-- writing a variable's captures makes them known
pub tells-written : (g : PropertyGraph) (q : Query) (known : List Bool) (c words : List ℕ) (v : ℕ) (e : Element) → HasRoom q → Tells g q known c words
    → v < length known → element_of g q c v ≡ Some e → Tells g q (set known v true) c (written q e (captures_of q v) words)
tells-written g q known c words v e room tells below element = record {
  size = length-written q e (captures_of q v) words ∙ tells.size;
  numbers = λ u low. number-written q e (captures_of q v) words u low ∙ tells.numbers u low;
  captures = λ place x found is_known.
      let size = tells.size in
      captured-written q e (captures_of q v) words place (omega arith) (omega arith)
      (subst (λ n. AllByRecursion (λ p. p < n) (captures_of q v)) (let same : 0 + length q.captures ≡ length q.captures = omega arith in same) (places-low q.captures 0 v))
      (get-low q.captures place x found)
      ∙ ap (λ b. cond b (word_at q e place) (captured_in words (length q.variables) place))
      (ap (λ n. stands_in n (captures_of q v)) (let same : place ≡ 0 + place = omega arith in same) ∙ places-in q.captures 0 v place x found)
      ∙ at_answer place x found is_known (eqb x.variable v) refl;
} where
  at_answer : (place : ℕ) (x : Capture) → slice_get q.captures place ≡ Some x → get_or (set known v true) x.variable false ≡ true → (b : Bool) → eqb x.variable v ≡ b
      → cond b (word_at q e place) (captured_in words (length q.variables) place) ≡ word_from (kind_of x.what) (captured_value g q c x)
  at_answer place x found is_known true is =
      ap (option_and_then (word_of e)) found
      ∙ ap (λ o. word_from (kind_of x.what) (option_map_or (use_of x.what) o value.Null)) (sym (ap (element_of g q c) (eqb-true x.variable v is) ∙ element))
  at_answer place x found is_known false is =
      tells.captures place x found (sym (get_or-set_other known v x.variable true false (eqb-false x.variable v is)) ∙ is_known)

word-null : (k : Kind) → word_from k value.Null ≡ None
word-null kind.Int = refl
word-null kind.Text = refl
word-null kind.Bool = refl
word-null kind.Date = refl

from-none : (k : Kind) → value_from k None ≡ value.Null
from-none kind.Int = refl
from-none kind.Text = refl
from-none kind.Bool = refl
from-none kind.Date = refl

-- a property of all elements for which a variable may stand holds of that for which it stands
of-element : (g : PropertyGraph) (q : Query) (c : List ℕ) (v : ℕ) (e : Element) (P : Element → Type 0) → element_of g q c v ≡ Some e
    → ((x : Variable) → slice_get q.variables v ≡ Some x → AllByRecursion P (elements_for g x)) → P e
of-element g q c v e P found all = at_variable (slice_get q.variables v) refl (slice_get c v) refl found where
  at_kind : (x : Variable) (n : ℕ) (b : Bool) → AllByRecursion P (cond b (without_ends g.edges) g.vertices)
      → cond b (slice_get (without_ends g.edges) n) (slice_get g.vertices n) ≡ Some e → P e
  at_kind x n true each is = all-get P (without_ends g.edges) n e each is
  at_kind x n false each is = all-get P g.vertices n e each is

  at_variable : (o : Option Variable) → slice_get q.variables v ≡ o → (n : Option ℕ) → slice_get c v ≡ n
      → option_and_then (λ (x : Variable). option_and_then (element_at g x) n) o ≡ Some e → P e
  at_variable None is n is_n here = cc
  at_variable (Some x) is None is_n here = cc
  at_variable (Some x) is (Some n) is_n here = at_kind x n x.edge (all x is) here

told-at : (g : PropertyGraph) (q : Query) (c : List ℕ) (place : ℕ) (x : Capture) (e : Element) → AreTold g q → slice_get q.captures place ≡ Some x
    → element_of g q c x.variable ≡ Some e → IsTold x e
told-at g q c place x e told found element =
    of-element g q c x.variable e (IsTold x) element
    (λ y is. subst (AreToldOf g x) is (all-get (λ (z : Capture). AreToldOf g z (slice_get q.variables z.variable)) q.captures place x told found))

-- what is captured can be read back from its word
pub value-told : (g : PropertyGraph) (q : Query) (c : List ℕ) (place : ℕ) (x : Capture) → AreTold g q → slice_get q.captures place ≡ Some x
    → value_from (kind_of x.what) (word_from (kind_of x.what) (captured_value g q c x)) ≡ captured_value g q c x
value-told g q c place x told found = at_element (element_of g q c x.variable) refl where
  at_element : (o : Option Element) → element_of g q c x.variable ≡ o
      → value_from (kind_of x.what) (word_from (kind_of x.what) (option_map_or (use_of x.what) o value.Null)) ≡ option_map_or (use_of x.what) o value.Null
  at_element None is = ap (value_from (kind_of x.what)) (word-null (kind_of x.what)) ∙ from-none (kind_of x.what)
  at_element (Some e) is = told-at g q c place x e told found is

pub values-at : (words : List ℕ) (n k p : ℕ) (cs : List Capture)
    → slice_index_or (values_from words n k cs) p value.Null ≡ option_map_or (λ (x : Capture). value_from (kind_of x.what) (captured_in words n (k + p))) (slice_get cs p) value.Null
values-at words n k p [] = refl
values-at words n k zero (x ∷ cs) = ap (λ j. value_from (kind_of x.what) (captured_in words n j)) (let e : k ≡ k + 0 = omega arith in e)
values-at words n k (suc p) (x ∷ cs) =
    values-at words n (k + 1) p cs
    ∙ ap (λ j. option_map_or (λ (y : Capture). value_from (kind_of y.what) (captured_in words n j)) (slice_get cs p) value.Null) (let e : k + 1 + p ≡ k + suc p = omega arith in e)

map-at : (f : Capture → Value) (cs : List Capture) (p : ℕ) → slice_index_or (map f cs) p value.Null ≡ option_map_or f (slice_get cs p) value.Null
map-at f [] p = refl
map-at f (x ∷ cs) zero = refl
map-at f (x ∷ cs) (suc p) = map-at f cs p

-- the capture of a place is known, if there is one
abbrev pub IsKnown : Query → List Bool → ℕ → Type 0
IsKnown q known place = is_known known (slice_get q.captures place) ≡ true

same-value : (g : PropertyGraph) (q : Query) (known : List Bool) (c words : List ℕ) → AreTold g q → Tells g q known c words → (place : ℕ)
    → IsKnown q known place → IsSame (values q words) (captured g q c) place
same-value g q known c words told tells place is =
    values-at words (length q.variables) 0 place q.captures
    ∙ ap (λ j. option_map_or (λ (x : Capture). value_from (kind_of x.what) (captured_in words (length q.variables) j)) (slice_get q.captures place) value.Null) (let e : 0 + place ≡ place = omega arith in e)
    ∙ at_capture (slice_get q.captures place) refl is ∙ sym (map-at (captured_value g q c) q.captures place)
  where
    at_capture : (o : Option Capture) → slice_get q.captures place ≡ o → is_known known o ≡ true
        → option_map_or (λ (x : Capture). value_from (kind_of x.what) (captured_in words (length q.variables) place)) o value.Null ≡ option_map_or (captured_value g q c) o value.Null
    at_capture None found known_here = refl
    at_capture (Some x) found known_here = ap (value_from (kind_of x.what)) (tells.captures place x found known_here) ∙ value-told g q c place x told found

all-known : (q : Query) (known : List Bool) (places : List ℕ) → list_all (λ place. is_known known (slice_get q.captures place)) places ≡ true
    → AllByRecursion (IsKnown q known) places
all-known q known [] all = tt
all-known q known (p ∷ ps) all =
    let parts = and_parts (is_known known (slice_get q.captures p)) (list_all (λ place. is_known known (slice_get q.captures place)) ps) all in
    (parts.0, all-known q known ps parts.1)

All-map : (P R : ℕ → Type 0) (xs : List ℕ) → ((x : ℕ) → P x → R x) → AllByRecursion P xs → AllByRecursion R xs
All-map P R [] each all = tt
All-map P R (x ∷ xs) each all = (each x all.0, All-map P R xs each all.1)

All-append : (P : ℕ → Type 0) (xs ys : List ℕ) → AllByRecursion P xs → AllByRecursion P ys → AllByRecursion P (xs ++ ys)
All-append P [] ys all more = more
All-append P (x ∷ xs) ys all more = (all.0, All-append P xs ys all.1 more)

-- a conjunct that can be tested is true of the words where it is true of the assignment
pub holds-meets : (texts : List (List ℕ)) (g : PropertyGraph) (q : Query) (known : List Bool) (c words : List ℕ) (number : ℕ) → AreTold g q
    → Tells g q known c words → is_whole q known number ≡ true → holds texts q words number ≡ meets texts g q c (Holds (conjunct_at q number))
holds-meets texts g q known c words number told tells ready =
    ap passes (val-same texts (values q words) (captured g q c) (conjunct_at q number)
    (All-map (IsKnown q known) (IsSame (values q words) (captured g q c)) (captures (conjunct_at q number))
    (same-value g q known c words told tells) (all-known q known (captures (conjunct_at q number)) ready)))

abbrev pub conjuncts_meet : List (List ℕ) → PropertyGraph → Query → List ℕ → List ℕ → Bool
conjuncts_meet texts g q c numbers = list_all (λ number. meets texts g q c (Holds (conjunct_at q number))) numbers

pub all_hold-meet : (texts : List (List ℕ)) (g : PropertyGraph) (q : Query) (known : List Bool) (c words numbers : List ℕ) → AreTold g q
    → Tells g q known c words → all_hold texts q words (whole q known numbers) ≡ conjuncts_meet texts g q c (whole q known numbers)
all_hold-meet texts g q known c words [] told tells = refl
all_hold-meet texts g q known c words (n ∷ ns) told tells = at_answer (is_whole q known n) refl (all_hold-meet texts g q known c words ns told tells) where
  at_answer : (b : Bool) → is_whole q known n ≡ b → all_hold texts q words (whole q known ns) ≡ conjuncts_meet texts g q c (whole q known ns)
      → all_hold texts q words (cond b (n ∷ whole q known ns) (whole q known ns)) ≡ conjuncts_meet texts g q c (cond b (n ∷ whole q known ns) (whole q known ns))
  at_answer true ready later = ap₂ (λ a b. a && b) (holds-meets texts g q known c words n told tells ready) later
  at_answer false ready later = later

-- what conjuncts that can be tested use is known
pub uses-known : (q : Query) (known : List Bool) (numbers : List ℕ) → AllByRecursion (IsKnown q known) (uses q (whole q known numbers))
uses-known q known [] = tt
uses-known q known (n ∷ ns) = at_answer (is_whole q known n) refl (uses-known q known ns) where
  at_answer : (b : Bool) → is_whole q known n ≡ b → AllByRecursion (IsKnown q known) (uses q (whole q known ns))
      → AllByRecursion (IsKnown q known) (uses q (cond b (n ∷ whole q known ns) (whole q known ns)))
  at_answer true ready later =
      All-append (IsKnown q known) (captures (conjunct_at q n)) (uses q (whole q known ns)) (all-known q known (captures (conjunct_at q n)) ready) later
  at_answer false ready later = later

value-valid : (texts : List (List ℕ)) (values : List (ℕ × Value)) (p : ℕ) → AllByRecursion (λ (v : ℕ × Value). IsValid texts v.1) values → is_valid texts (value_of values p) ≡ true
value-valid texts [] p all = refl
value-valid texts (v ∷ vs) p all = at_answer (eqb p v.0) (value-valid texts vs p all.1) where
  at_answer : (b : Bool) → is_valid texts (value_of vs p) ≡ true → is_valid texts (cond b v.1 (value_of vs p)) ≡ true
  at_answer true later = valid-found texts v.1 all.0
  at_answer false later = later

use-valid : (texts : List (List ℕ)) (e : Element) (w : What) → IsShown texts e → is_valid texts (use_of w e) ≡ true
use-valid texts e (what.Property p k) shown = value-valid texts e.values p shown.1
use-valid texts e what.Id shown = refl
use-valid texts e what.Label shown = valid-found texts (value.Text e.label) shown.0

shown-for : (texts : List (List ℕ)) (g : PropertyGraph) (x : Variable) → HasShown texts g → AllByRecursion (IsShown texts) (elements_for g x)
shown-for texts g x shown = at_kind x.edge where
  at_kind : (b : Bool) → AllByRecursion (IsShown texts) (cond b (without_ends g.edges) g.vertices)
  at_kind true = shown.edges_shown
  at_kind false = shown.vertices_shown

-- the word of a known capture stands for a value
pub told-known : (texts : List (List ℕ)) (g : PropertyGraph) (q : Query) (known : List Bool) (c words : List ℕ) (place : ℕ) → AreTold g q → HasShown texts g
    → Tells g q known c words → IsKnown q known place → is_told_at texts q words place ≡ true
told-known texts g q known c words place told shown tells is = at_capture (slice_get q.captures place) refl is where
  valid : (x : Capture) (o : Option Element) → element_of g q c x.variable ≡ o → is_valid texts (option_map_or (use_of x.what) o value.Null) ≡ true
  valid x None found = refl
  valid x (Some e) found = use-valid texts e x.what (of-element g q c x.variable e (IsShown texts) found (λ y _. shown-for texts g y shown))

  at_word : (x : Capture) (v : Value) → value_from (kind_of x.what) (word_from (kind_of x.what) v) ≡ v → is_valid texts v ≡ true
      → (o : Option ℕ) → word_from (kind_of x.what) v ≡ o → is_told texts (kind_of x.what) o ≡ true
  at_word x v back fine None is_word_of = refl
  at_word x v back fine (Some w) is_word_of =
      let same : value_from (kind_of x.what) (Some w) ≡ v = ap (value_from (kind_of x.what)) (sym is_word_of) ∙ back in
      and_from (is_valid texts (value_from (kind_of x.what) (Some w))) (is_word w (word_from (kind_of x.what) (value_from (kind_of x.what) (Some w))))
      (ap (is_valid texts) same ∙ fine) (ap (λ u. is_word w (word_from (kind_of x.what) u)) same ∙ ap (is_word w) is_word_of ∙ eq-eqb w w refl)

  at_capture : (o : Option Capture) → slice_get q.captures place ≡ o → is_known known o ≡ true
      → option_map_or (λ (x : Capture). is_told texts (kind_of x.what) (captured_in words (length q.variables) place)) o true ≡ true
  at_capture None found known_here = refl
  at_capture (Some x) found known_here =
      ap (is_told texts (kind_of x.what)) (tells.captures place x found known_here)
      ∙ at_word x (captured_value g q c x) (value-told g q c place x told found) (valid x (element_of g q c x.variable) refl)
      (word_from (kind_of x.what) (captured_value g q c x)) refl

pub all_told-known : (texts : List (List ℕ)) (g : PropertyGraph) (q : Query) (known : List Bool) (c words places : List ℕ) → AreTold g q → HasShown texts g
    → Tells g q known c words → AllByRecursion (IsKnown q known) places → all_told texts q words places ≡ true
all_told-known texts g q known c words [] told shown tells all = refl
all_told-known texts g q known c words (p ∷ ps) told shown tells all =
    and_from (is_told_at texts q words p) (all_told texts q words ps) (told-known texts g q known c words p told shown tells all.0)
    (all_told-known texts g q known c words ps told shown tells all.1)

-- what isn't read of an edge was known before it
pub others-known : (q : Query) (known : List Bool) (edge : ℕ) (places : List ℕ) → AllByRecursion (IsKnown q (set known edge true)) places
    → AllByRecursion (IsKnown q known) (others q edge places)
others-known q known edge [] all = tt
others-known q known edge (p ∷ ps) all = at_answer (is_of q edge p) refl (others-known q known edge ps all.1) where
  before : (o : Option Capture) → is_known (set known edge true) o ≡ true → option_map_or (λ (x : Capture). x.variable == edge) o false ≡ false → is_known known o ≡ true
  before None is not_of = refl
  before (Some x) is not_of = sym (get_or-set_other known edge x.variable true false (eqb-false x.variable edge not_of)) ∙ is

  at_answer : (b : Bool) → is_of q edge p ≡ b → AllByRecursion (IsKnown q known) (others q edge ps)
      → AllByRecursion (IsKnown q known) (cond (not b) (p ∷ others q edge ps) (others q edge ps))
  at_answer true is later = later
  at_answer false is later = (before (slice_get q.captures p) all.0 is, later)

variable-at : (xs : List Variable) (v : ℕ) → v < length xs → (x : Variable) × (slice_get xs v ≡ Some x) × (x.edge ≡ get_or (map (λ (y : Variable). y.edge) xs) v false)
variable-at [] v below = absurd (omega arith)
variable-at (x ∷ xs) zero below = (x, refl, refl)
variable-at (x ∷ xs) (suc v) below = variable-at xs v (omega arith)

-- the element for which a variable stands
pub element-is : (g : PropertyGraph) (q : Query) (c : List ℕ) (v : ℕ) → v < length q.variables → length c ≡ length q.variables
    → element_of g q c v ≡ cond (is_edge q v) (slice_get (without_ends g.edges) (at c v)) (slice_get g.vertices (at c v))
element-is g q c v below sizes =
    let x = variable-at q.variables v below in
    ap₂ (λ o n. option_and_then (λ (y : Variable). option_and_then (element_at g y) n) o) x.1 (get-at c v (subst (λ n. v < n) (sym sizes) below))
    ∙ ap (λ b. cond b (slice_get (without_ends g.edges) (at c v)) (slice_get g.vertices (at c v))) x.2

-- its label is asked for
pub labels-meet : (texts : List (List ℕ)) (g : PropertyGraph) (q : Query) (c : List ℕ) (v : ℕ) (e : Element) → v < length q.variables → element_of g q c v ≡ Some e
    → meets texts g q c (Labels v) ≡ has_labels texts (labels_of q v) e
labels-meet texts g q c v e below found =
    let x = variable-at q.variables v below in
    ap₂ (λ o n. option_map_or (λ (y : Variable). option_map_or (has_labels texts y.labels) n false) o false) x.1 found
    ∙ sym (ap (λ (o : Option Variable). has_labels texts (option_map_or (λ (y : Variable). y.labels) o []) e) x.1)
