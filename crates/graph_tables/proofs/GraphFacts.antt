-- Edges as elements and ends side by side.
use Rattle.std.proofs.Common.{◌≡◌, ap, refl, arith, ℕ, ℤ, zero, suc, List, [], ◌∷◌, ◌++◌, length, slice_get, pos, Option, Some}
use Rattle.std.specs.List.{AllByRecursion}
use Rattle.std.specs.Option.{option_map}
use Rattle.element_store.specs.Elements.{Element}
use Rattle.graph_tables.specs.Graph.{Edge, EndsIn, without_ends}
use Rattle.graph_tables.specs.Loading.{IsReadable, IsSound, edges_with}
use Rattle.graph_tables.specs.declared.loading.Ends.{Ends}
use Rattle.graph_tables.specs.declared.loading.Loading.{Loading}

pub length-edges_with : (es : List Element) (ends : List Ends) → length ends ≡ length es → length (edges_with es ends) ≡ length es
length-edges_with [] ends e = refl
length-edges_with (x ∷ xs) [] e = omega arith
length-edges_with (x ∷ xs) (y ∷ ys) e = ap suc (length-edges_with xs ys (omega arith))

pub without_ends-edges_with : (es : List Element) (ends : List Ends) → length ends ≡ length es → without_ends (edges_with es ends) ≡ es
without_ends-edges_with [] ends e = refl
without_ends-edges_with (x ∷ xs) [] e = absurd (omega arith)
without_ends-edges_with (x ∷ xs) (y ∷ ys) e = ap (λ t. x ∷ t) (without_ends-edges_with xs ys (omega arith))

pub edges_with-push : (es : List Element) (ends : List Ends) (e : Element) (at : Ends) → length ends ≡ length es
    → edges_with (es ++ e ∷ []) (ends ++ at ∷ []) ≡ edges_with es ends ++ record { key = e.key; label = e.label; source = at.source; target = at.target; values = e.values } ∷ []
edges_with-push [] [] e at h = refl
edges_with-push [] (y ∷ ys) e at h = absurd (omega arith)
edges_with-push (x ∷ xs) [] e at h = absurd (omega arith)
edges_with-push (x ∷ xs) (y ∷ ys) e at h =
    ap (λ t. record { key = x.key; label = x.label; source = y.source; target = y.target; values = x.values } ∷ t) (edges_with-push xs ys e at (omega arith))

pub edges_with-get : (es : List Element) (ends : List Ends) (i : ℕ) (e : Element) (at : Ends) → slice_get es i ≡ Some e → slice_get ends i ≡ Some at
    → slice_get (edges_with es ends) i ≡ Some (record { key = e.key; label = e.label; source = at.source; target = at.target; values = e.values })
edges_with-get [] ends i e at h f = cc h
edges_with-get (x ∷ xs) [] i e at h f = cc f
edges_with-get (x ∷ xs) (y ∷ ys) zero e at h f = let a : x ≡ e = cc h in let b : y ≡ at = cc f in rw (a, b) refl
edges_with-get (x ∷ xs) (y ∷ ys) (suc i) e at h f = edges_with-get xs ys i e at h f

pub label_with : (es : List Element) (ends : List Ends) (i l : ℕ) → length ends ≡ length es → option_map (λ (e : Element). e.label) (slice_get es i) ≡ Some l
    → option_map (λ (e : Edge). e.label) (slice_get (edges_with es ends) i) ≡ Some l
label_with [] ends i l size at = cc at
label_with (x ∷ xs) [] i l size at = absurd (omega (arith, size))
label_with (x ∷ xs) (y ∷ ys) zero l size at = at
label_with (x ∷ xs) (y ∷ ys) (suc i) l size at = label_with xs ys i l (omega (arith, size)) at

pub ends_at : (vertices : List Element) (edges : List Edge) (i : ℕ) (e : Edge) → AllByRecursion (EndsIn vertices) edges → slice_get edges i ≡ Some e → EndsIn vertices e
ends_at vertices [] i e all h = cc h
ends_at vertices (x ∷ xs) zero e all h = let same : x ≡ e = cc h in rw (← same) all.0
ends_at vertices (x ∷ xs) (suc i) e all h = ends_at vertices xs i e all.1 h

-- some element and some ends
pub no_element : Element
no_element = record { key = pos 0; label = 0; values = [] }

pub no_ends : Ends
no_ends = record { source = 0; target = 0 }

-- the fields of an edge, by its key and label and its ends
pub fields_are : (e : Element) (read : ℤ × ℕ) (at : Ends) → ◌≡◌ {A = Option (ℤ × ℕ)} (Some (e.key, e.label)) (Some read)
    → ◌≡◌ {A = Option (ℤ × ℕ × ℕ × ℕ)} (Some (e.key, e.label, at.source, at.target)) (Some (read.0, read.1, at.source, at.target))
fields_are e read at h =
    let key : e.key ≡ read.0 = cc h in
    let label : e.label ≡ read.1 = cc h in
    rw (key, label) refl

-- what was loaded can be read
pub readable : (l : Loading) → IsSound l → IsReadable l
readable l s = record {
  ends_beside = s.ends_beside;
  ends = s.whole.ends;
  few_vertices = omega (arith, s.few_vertices);
  few_edges = omega (arith, s.few_edges);
}
