-- A value of a kind is read back from its word.
use Rattle.std.proofs.Common.{◌≡◌, ℕ, ℤ, pos, negsuc, ◌<◌, ◌^◌, ◌%◌, Bool, true, false, cond, ◌==◌, List}
use Rattle.std.proofs.Common.{[], ◌∷◌, length, Option, Some, None, refl, sym, ap, ◌∙◌, subst, arith, w32, w64}
use Rattle.std.specs.Prelude.{FitsSigned, ◌≤ℤ◌, slice_get, nat_eq}
use Rattle.std.specs.Int.{cast_signed, cast_unsigned}
use Rattle.std.specs.List.{AllByRecursion}
use Rattle.std.specs.Option.{option_map}
use Rattle.std.proofs.Math.Facts.{Fits-of_z}
use Rattle.std.proofs.Math.Nat.{mod-eq_of_lt}
use Rattle.std.proofs.lemmas.Bool.{eqb-true, ltb-true}
use Rattle.std.proofs.lemmas.Int.{ints, to_z-of_z}
use Rattle.std.proofs.lemmas.Option.{slice_get-map}
use Rattle.adfs_base.specs.declared.value.Kind.{Kind}
use Rattle.adfs_base.specs.declared.value.Kind.TheVariants as kind
use Rattle.adfs_base.specs.declared.value.Value.{Value}
use Rattle.adfs_base.specs.declared.value.Value.TheVariants as value
use Rattle.element_store.specs.Columns.{value_of}
use Rattle.element_store.specs.Elements.{Element}
use Rattle.element_store.specs.Words.{HasKind, value_from, word_from}
use Rattle.graph_tables.specs.Graph.{FitsWords, HasType, HasTypes, IsLong, IsShown, without_ends}
use Rattle.graph_tables.specs.Properties.{Property, SchemaLists}
use Rattle.pgql_meaning.specs.Captured.{use_of}
use Rattle.result_collect.specs.Contexts.{kind_of}
use Rattle.typed_expr.specs.Captured.{HasItsKind, KeepsKind, properties_for}
use Rattle.typed_expr.specs.WellFormed.{are_edges}
use Rattle.typed_expr.specs.declared.query.Capture.{Capture}
use Rattle.typed_expr.specs.declared.query.Variable.{Variable}
use Rattle.typed_expr.specs.declared.query.What.{What}
use Rattle.typed_expr.specs.declared.query.What.TheVariants as what
use Rattle.value_text.specs.Dates.{IsDay}
use Rattle.value_text.specs.Numbers.{is_i64}
use Rattle.value_text.specs.Valid.{IsValid}
use Rattle.plan_tree.specs.Laws.{KindsAreTold}
use Rattle.plan_tree.specs.Told.{AreToldOf, IsTold}
use Rattle.plan_tree.proofs.Days.{first_day, last_day}

-- the value is read back from its word
abbrev IsBack : Kind → Value → Type 0
IsBack k v = value_from k (word_from k v) ≡ v

long-back : (n : ℤ) → is_i64 n ≡ true → cast_signed w64 (cast_unsigned w64 n) ≡ n
long-back (pos n) is = to_z-of_z w64 (pos n) (record { sfits = ltb-true n (2 ^ 63) is })
long-back (negsuc n) is = to_z-of_z w64 (negsuc n) (record { sfits = ltb-true n (2 ^ 63) is })

small : (day : ℤ) → negsuc 719527 ≤ℤ day → day ≤ℤ pos 2932896 → FitsSigned w32 day
small (pos n) low high = let below : n < 2 ^ 31 = grind (arith, ints, high) in record { sfits = below }
small (negsuc n) low high = let below : n < 2 ^ 31 = grind (arith, ints, low) in record { sfits = below }

day-fits : (day : ℤ) → IsDay day → FitsSigned w32 day
day-fits day is = small day (subst (λ z. z ≤ℤ day) first_day is.0) (subst (λ z. day ≤ℤ z) last_day is.1)

day-back : (day : ℤ) → IsDay day → cast_signed w32 (cast_unsigned w32 day % 2 ^ 32) ≡ day
day-back day is =
    let fits = day-fits day is in
    ap (cast_signed w32) (mod-eq_of_lt (let below : cast_unsigned w32 day < 2 ^ 32 = (Fits-of_z fits).fits in below)) ∙ to_z-of_z w32 day fits

null-back : (k : Kind) → IsBack k value.Null
null-back kind.Int = refl
null-back kind.Text = refl
null-back kind.Bool = refl
null-back kind.Date = refl

bool-back : (b : Bool) → (cond b 1 0 == 1) ≡ b
bool-back true = refl
bool-back false = refl

value-back : (texts : List (List ℕ)) (k : Kind) (v : Value) → length texts < 2 ^ 32 → HasKind k v → IsValid texts v → IsLong v → IsBack k v
value-back texts k value.Null few kinded valid long = null-back k
value-back texts k (value.Int n) few kinded valid long = subst (λ k. IsBack k (value.Int n)) (sym kinded) (ap value.Int (long-back n long))
value-back texts k (value.Text n) few kinded valid long =
    subst (λ k. IsBack k (value.Text n)) (sym kinded) (ap value.Text (mod-eq_of_lt (let below : n < 2 ^ 32 = omega arith in below)))
value-back texts k (value.Bool b) few kinded valid long = subst (λ k. IsBack k (value.Bool b)) (sym kinded) (ap value.Bool (bool-back b))
value-back texts k (value.Date d) few kinded valid long = subst (λ k. IsBack k (value.Date d)) (sym kinded) (ap value.Date (day-back d valid))

-- a property of this kind has values of it
kind-of : (o : Option Property) (k : Kind) (v : Value) → HasType o v → option_map (λ p. p.type) o ≡ Some k → HasKind k v
kind-of None k v typed is = absurd typed
kind-of (Some p) k v typed is = let same : p.type ≡ k = cc in subst (λ k. HasKind k v) same typed

property-back : (texts : List (List ℕ)) (properties : List Property) (values : List (ℕ × Value)) (n : ℕ) (k : Kind) → length texts < 2 ^ 32
    → option_map (λ p. p.type) (slice_get properties n) ≡ Some k → AllByRecursion (λ (v : ℕ × Value). HasType (slice_get properties v.0) v.1) values
    → AllByRecursion (λ (v : ℕ × Value). IsValid texts v.1) values → AllByRecursion (λ (v : ℕ × Value). IsLong v.1) values → IsBack k (value_of values n)
property-back texts properties [] n k few is typed valid long = null-back k
property-back texts properties (v ∷ vs) n k few is typed valid long =
    at_answer (nat_eq n v.0) refl (property-back texts properties vs n k few is typed.1 valid.1 long.1)
  where
    at_answer : (b : Bool) → nat_eq n v.0 ≡ b → IsBack k (value_of vs n) → IsBack k (cond b v.1 (value_of vs n))
    at_answer true here later =
        value-back texts k v.1 few
        (kind-of (slice_get properties v.0) k v.1 typed.0 (ap (λ m. option_map (λ p. p.type) (slice_get properties m)) (sym (eqb-true n v.0 here)) ∙ is))
        valid.0 long.0
    at_answer false here later = later

-- what is used of an element is read back
use-back : (texts : List (List ℕ)) (properties : List Property) (w : What) (e : Element) → length texts < 2 ^ 32
    → ((n : ℕ) (k : Kind) → w ≡ what.Property n k → option_map (λ p. p.type) (slice_get properties n) ≡ Some k)
    → HasTypes properties e → IsShown texts e → FitsWords e → IsBack (kind_of w) (use_of w e)
use-back texts properties (what.Property n k) e few kinded typed shown fits =
    property-back texts properties e.values n k few (kinded n k refl) typed shown.1 fits.1
use-back texts properties what.Id e few kinded typed shown fits = ap value.Int (long-back e.key fits.0)
use-back texts properties what.Label e few kinded typed shown fits =
    ap value.Text (mod-eq_of_lt (let label = shown.0 in let below : e.label < 2 ^ 32 = omega arith in below))

All-three : (P Q R S : Element → Type 0) (xs : List Element) → ((x : Element) → P x → Q x → R x → S x)
    → AllByRecursion P xs → AllByRecursion Q xs → AllByRecursion R xs → AllByRecursion S xs
All-three P Q R S [] each ps qs rs = tt
All-three P Q R S (x ∷ xs) each ps qs rs = (each x ps.0 qs.0 rs.0, All-three P Q R S xs each ps.1 qs.1 rs.1)

All-each : {X : Type 0} (P Q : X → Type 0) (xs : List X) → ((x : X) → P x → Q x) → AllByRecursion P xs → AllByRecursion Q xs
All-each P Q [] each ps = tt
All-each P Q (x ∷ xs) each ps = (each x ps.0, All-each P Q xs each ps.1)

keeps : (schema : SchemaLists) (w : What) (edge : Bool) → KeepsKind schema w (Some edge)
    → (n : ℕ) (k : Kind) → w ≡ what.Property n k → option_map (λ p. p.type) (slice_get (properties_for schema edge) n) ≡ Some k
keeps schema w edge kept n k is = subst (λ u. KeepsKind schema u (Some edge)) is kept

pub kinds_are_told : KindsAreTold
kinds_are_told texts schema g q shown kinds =
    All-each (HasItsKind schema (are_edges q)) (λ (c : Capture). AreToldOf g c (slice_get q.variables c.variable)) q.captures
    (λ c its. at_variable c (slice_get q.variables c.variable) (subst (KeepsKind schema c.what) (slice_get-map (λ (x : Variable). x.edge) q.variables c.variable) its))
    kinds.captures_typed
  where
    at_kind : (c : Capture) (edge : Bool) → KeepsKind schema c.what (Some edge) → AllByRecursion (IsTold c) (cond edge (without_ends g.edges) g.vertices)
    at_kind c true kept =
        All-three (HasTypes schema.edge) (IsShown texts) FitsWords (IsTold c) (without_ends g.edges)
        (λ e typed seen fits. use-back texts schema.edge c.what e kinds.few_texts (keeps schema c.what true kept) typed seen fits) kinds.edges_typed shown.edges_shown kinds.edges_fit
    at_kind c false kept =
        All-three (HasTypes schema.vertex) (IsShown texts) FitsWords (IsTold c) g.vertices
        (λ e typed seen fits. use-back texts schema.vertex c.what e kinds.few_texts (keeps schema c.what false kept) typed seen fits) kinds.vertices_typed shown.vertices_shown kinds.vertices_fit

    at_variable : (c : Capture) (o : Option Variable) → KeepsKind schema c.what (option_map (λ (x : Variable). x.edge) o) → AreToldOf g c o
    at_variable c None kept = tt
    at_variable c (Some x) kept = at_kind c x.edge kept
