-- A header's columns have their properties' kinds, and properties stay.
use Rattle.std.proofs.Common.{◌≡◌, ◌∙◌, ap, refl, arith, ◌+◌, ℕ, zero, suc, Bool, true, false, cond, is_some, List, [], ◌∷◌, ◌++◌, length, drop, slice_get, Option, Some, None, Result, Ok, Err}
use Rattle.std.specs.List.{AllByRecursion}
use Rattle.std.specs.Option.{option_map}
use Rattle.std.specs.Str.{bytes_eq}
use Rattle.adfs_base.specs.declared.value.Kind.{Kind}
use Rattle.adfs_base.specs.declared.value.Kind.TheVariants as k
use Rattle.adfs_base.specs.declared.value.Value.{Value}
use Rattle.element_store.specs.Columns.{Column, HaveKinds, column_of, named}
use Rattle.element_store.specs.Elements.{Element}
use Rattle.element_store.specs.Words.{HasKind}
use Rattle.graph_tables.specs.Faults.{◌>>=◌}
use Rattle.graph_tables.specs.Graph.{HasType, HasTypes}
use Rattle.graph_tables.specs.Headers.{Heading, columns_from, header_cell, heading_of, is_key_name, key_columns, keys_first, or_bad, with_column, with_property}
use Rattle.graph_tables.specs.Properties.{AreTyped, Extends, Property, kind_eq, placed, placed_at, property_from, property_of}
use Rattle.graph_tables.specs.declared.element_kind.ElementKind.{ElementKind}
use Rattle.graph_tables.specs.declared.faults.Place.{Place}
use Rattle.graph_tables.specs.declared.faults.TableFault.{TableFault}

same_kind : (a b : Kind) → kind_eq a b ≡ true → a ≡ b
same_kind k.Int k.Int h = refl
same_kind k.Text k.Text h = refl
same_kind k.Bool k.Bool h = refl
same_kind k.Date k.Date h = refl
same_kind k.Int k.Text h = cc h
same_kind k.Int k.Bool h = cc h
same_kind k.Int k.Date h = cc h
same_kind k.Text k.Int h = cc h
same_kind k.Text k.Bool h = cc h
same_kind k.Text k.Date h = cc h
same_kind k.Bool k.Int h = cc h
same_kind k.Bool k.Text h = cc h
same_kind k.Bool k.Date h = cc h
same_kind k.Date k.Int h = cc h
same_kind k.Date k.Text h = cc h
same_kind k.Date k.Bool h = cc h

-- the kind of a property, by its number
abbrev type_at : List Property → ℕ → Option Kind
type_at properties number = option_map (λ p. p.type) (slice_get properties number)

last_there : (ps : List Property) (p : Property) → slice_get (ps ++ p ∷ []) (length ps) ≡ Some p
last_there [] p = refl
last_there (q ∷ ps) p = last_there ps p

extends_push : (ps : List Property) (p : Property) → Extends ps (ps ++ p ∷ [])
extends_push [] p i q h = cc h
extends_push (r ∷ ps) p zero q h = h
extends_push (r ∷ ps) p (suc i) q h = extends_push ps p i q h

pub extends_self : (ps : List Property) → Extends ps ps
extends_self ps i p h = h

pub extends_both : (a b c : List Property) → Extends a b → Extends b c → Extends a c
extends_both a b c h f i p is = f i p (h i p is)

-- a property that was found by its name
found_at : (n : ℕ) (ps : List Property) (name : List ℕ) (m : ℕ) (type : Kind) → property_from n ps name ≡ Some (m, type) → (i : ℕ) × (m ≡ n + i) × (type_at ps i ≡ Some type)
found_at n [] name m type h = cc h
found_at n (p ∷ ps) name m type h = by (bytes_eq name p.name) h (found_at (n + 1) ps name m type)
  where
    by : (b : Bool) → cond b (Some (n, p.type)) (property_from (n + 1) ps name) ≡ Some (m, type)
        → (property_from (n + 1) ps name ≡ Some (m, type) → (i : ℕ) × (m ≡ n + 1 + i) × (type_at ps i ≡ Some type))
        → (i : ℕ) × (m ≡ n + i) × (type_at (p ∷ ps) i ≡ Some type)
    by true e more =
        let pair : ◌≡◌ {A = ℕ × Kind} (n, p.type) (m, type) = cc e in
        let number : n ≡ m = ap (λ (q : ℕ × Kind). q.0) pair in
        let kind : p.type ≡ type = ap (λ (q : ℕ × Kind). q.1) pair in
        (0, omega arith, ap (λ t. Some t) kind)
    by false e more = let r = more e in (suc r.0, omega (arith, r.1), r.2)

found_type : (ps : List Property) (name : List ℕ) (m : ℕ) (type : Kind) → property_of ps name ≡ Some (m, type) → type_at ps m ≡ Some type
found_type ps name m type h =
    let r = found_at 0 ps name m type h in
    let same : m ≡ r.0 = omega (arith, r.1) in
    rw same r.2

-- what placing a property gives: its number leads to its kind, and the others stay
record IsPlaced (old new : List Property) (number : ℕ) (type : Kind) : Type 0 where
  typed : type_at new number ≡ Some type
  grown : Extends old new

placed_type : (ps : List Property) (p : Property) (number : ℕ) (new : List Property) → placed ps p ≡ Some (number, new) → IsPlaced ps new number p.type
placed_type ps p number new h = by (property_of ps p.name) h (found_type ps p.name)
  where
    by : (found : Option (ℕ × Kind)) → placed_at ps p found ≡ Some (number, new) → ((m : ℕ) (type : Kind) → found ≡ Some (m, type) → type_at ps m ≡ Some type) → IsPlaced ps new number p.type
    by None e there =
        let pair : ◌≡◌ {A = ℕ × List Property} (length ps, ps ++ p ∷ []) (number, new) = cc e in
        let at : length ps ≡ number = ap (λ (q : ℕ × List Property). q.0) pair in
        let all : ps ++ p ∷ [] ≡ new = ap (λ (q : ℕ × List Property). q.1) pair in
        rw (← at, ← all) (record { typed = ap (option_map (λ q. q.type)) (last_there ps p); grown = extends_push ps p })
    by (Some f) e there = known (kind_eq f.1 p.type) (same_kind f.1 p.type) e
      where
        known : (b : Bool) → (b ≡ true → f.1 ≡ p.type) → cond {A = Option (ℕ × List Property)} b (Some (f.0, ps)) None ≡ Some (number, new) → IsPlaced ps new number p.type
        known true same is =
            let pair : ◌≡◌ {A = ℕ × List Property} (f.0, ps) (number, new) = cc is in
            let at : f.0 ≡ number = ap (λ (q : ℕ × List Property). q.0) pair in
            let all : ps ≡ new = ap (λ (q : ℕ × List Property). q.1) pair in
            rw (← at, ← all) (record { typed = there f.0 f.1 refl ∙ ap (λ t. Some t) (same refl); grown = extends_self ps })
        known false same is = cc is

-- more properties leave columns their kinds
type_still : (old new : List Property) (number : ℕ) (type : Kind) → Extends old new → type_at old number ≡ Some type → type_at new number ≡ Some type
type_still old new number type more h = by (slice_get old number) (more number) h
  where
    by : (found : Option Property) → ((p : Property) → found ≡ Some p → slice_get new number ≡ Some p) → option_map (λ p. p.type) found ≡ Some type → type_at new number ≡ Some type
    by None there e = cc e
    by (Some p) there e = rw (there p refl) e

pub typed_still : (old new : List Property) (columns : List Column) → Extends old new → AreTyped old columns → AreTyped new columns
typed_still old new [] more h = tt
typed_still old new (c ∷ cs) more h = (type_still old new c.0 c.1 more h.0, typed_still old new cs more h.1)

typed_push : (ps : List Property) (columns : List Column) (number : ℕ) (type : Kind) → AreTyped ps columns → type_at ps number ≡ Some type → AreTyped ps (columns ++ (number, type) ∷ [])
typed_push ps [] number type h one = (one, tt)
typed_push ps (c ∷ cs) number type h one = (h.0, typed_push ps cs number type h.1 one)

-- A heading after another: its columns have their properties' kinds, and the properties stay.
pub record IsTyped (old : List Property) (h : Heading) : Type 0 where
  pub columns : AreTyped h.properties h.columns
  pub grown : Extends old h.properties

one_more : (of : ElementKind) (old : List Property) (h h2 : Heading) (found : Option Property) → IsTyped old h → with_column of h found ≡ Some h2 → IsTyped old h2
one_more of old h h2 None was e = cc e
one_more of old h h2 (Some p) was e = named_so (is_key_name of p.name) e
  where
    fresh : (number : ℕ) (new : List Property) → IsPlaced h.properties new number p.type → (b : Bool) → cond b None (Some (record { properties = new; columns = h.columns ++ (number, p.type) ∷ [] })) ≡ Some h2 → IsTyped old h2
    fresh number new is true f = cc f
    fresh number new is false f =
        let same : ◌≡◌ {A = Heading} (record { properties = new; columns = h.columns ++ (number, p.type) ∷ [] }) h2 = cc f in
        rw (← same) (record {
          columns = typed_push new h.columns number p.type (typed_still h.properties new h.columns is.grown was.columns) is.typed;
          grown = extends_both old h.properties new was.grown is.grown;
        })

    by_place : (found : Option (ℕ × List Property)) → ((number : ℕ) (new : List Property) → found ≡ Some (number, new) → IsPlaced h.properties new number p.type) → with_property h p.type found ≡ Some h2 → IsTyped old h2
    by_place None there f = cc f
    by_place (Some at) there f = fresh at.0 at.1 (there at.0 at.1 refl) (is_some (column_of h.columns at.0)) f

    named_so : (b : Bool) → cond b None (with_property h p.type (placed h.properties p)) ≡ Some h2 → IsTyped old h2
    named_so true f = cc f
    named_so false f = by_place (placed h.properties p) (placed_type h.properties p) f

all_more : (of : ElementKind) (at : Place) (n : ℕ) (cells : List (List ℕ)) (old : List Property) (h h2 : Heading) → IsTyped old h → columns_from of at n cells h ≡ Ok h2 → IsTyped old h2
unfolding columns_from
all_more of at n [] old h h2 was e = let same : h ≡ h2 = cc e in rw (← same) was
all_more of at n (cell ∷ cells) old h h2 was e =
    by (with_column of h (header_cell cell)) (λ next is. all_more of at (n + 1) cells old next h2 (one_more of old h next (header_cell cell) was is)) e
  where
    by : (found : Option Heading) → ((next : Heading) → found ≡ Some next → columns_from of at (n + 1) cells next ≡ Ok h2 → IsTyped old h2)
        → (or_bad at n found >>= columns_from of at (n + 1) cells) ≡ Ok h2 → IsTyped old h2
    by None there f = cc f
    by (Some next) there f = there next refl f

pub heading_typed : (of : ElementKind) (at : Place) (properties : List Property) (cells : List (List ℕ)) (h : Heading) → heading_of of at properties cells ≡ Ok h → IsTyped properties h
heading_typed of at properties cells h e = by (keys_first of at cells) e
  where
    by : (keys : Result (Unit {0}) TableFault)
        → (keys >>= λ _. columns_from of at (key_columns of + 1) (drop (key_columns of) cells) (record { properties = properties; columns = [] })) ≡ Ok h → IsTyped properties h
    by (Err f) is = cc is
    by (Ok u) is = all_more of at (key_columns of + 1) (drop (key_columns of) cells) properties (record { properties = properties; columns = [] }) h (record { columns = tt; grown = extends_self properties }) is

-- a value under a column of a property's kind
has_type : (found : Option Property) (type : Kind) (v : Value) → option_map (λ p. p.type) found ≡ Some type → HasKind type v → HasType found v
has_type None type v e h = cc e
has_type (Some p) type v e h = let same : p.type ≡ type = cc e in rw same h

-- a row's values, each with its property
pub named_typed : (properties : List Property) (columns : List Column) (values : List Value) → AreTyped properties columns → HaveKinds columns values
    → AllByRecursion (λ v. HasType (slice_get properties v.0) v.1) (named columns values)
named_typed properties [] [] typed kinds = tt
named_typed properties [] (v ∷ vs) typed kinds = absurd kinds
named_typed properties (c ∷ cs) [] typed kinds = absurd kinds
named_typed properties (c ∷ cs) (v ∷ vs) typed kinds = (has_type (slice_get properties c.0) c.1 v typed.0 kinds.0, named_typed properties cs vs typed.1 kinds.1)

-- values under more properties
value_still : (old new : Option Property) (v : Value) → ((p : Property) → old ≡ Some p → new ≡ Some p) → HasType old v → HasType new v
value_still None new v more h = absurd h
value_still (Some p) new v more h = rw (more p refl) h

pub values_still : (old new : List Property) (values : List (ℕ × Value)) → Extends old new → AllByRecursion (λ v. HasType (slice_get old v.0) v.1) values
    → AllByRecursion (λ v. HasType (slice_get new v.0) v.1) values
values_still old new [] more h = tt
values_still old new (v ∷ vs) more h = (value_still (slice_get old v.0) (slice_get new v.0) v.1 (more v.0) h.0, values_still old new vs more h.1)

pub elements_still : (old new : List Property) (elements : List Element) → Extends old new → AllByRecursion (HasTypes old) elements → AllByRecursion (HasTypes new) elements
elements_still old new [] more h = tt
elements_still old new (e ∷ es) more h = (values_still old new e.values more h.0, elements_still old new es more h.1)
