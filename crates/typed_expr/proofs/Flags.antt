-- The numbers of vertices and edges, as variables are added at the end.
use Rattle.std.proofs.Common.{◌≡◌, ◌∙◌, ℕ, zero, suc, ◌+◌, Bool, true, false, List, [], ◌∷◌, ◌++◌, length, Some, refl, ap, subst, arith}
use Rattle.std.specs.List.{AllByRecursion, slice_get}
use Rattle.typed_query.specs.WellFormed.{edges_from, vertices_from}

further : (n k : ℕ) → n + 1 + k ≡ n + suc k
further n k = omega arith

pub edges-push_edge : (n : ℕ) (edges : List Bool) → edges_from n (edges ++ true ∷ []) ≡ edges_from n edges ++ (n + length edges) ∷ []
edges-push_edge n [] = ap (λ k. k ∷ []) (let same : n ≡ n + 0 = omega arith in same)
edges-push_edge n (true ∷ edges) = ap (λ ks. n ∷ ks) (edges-push_edge (n + 1) edges ∙ ap (λ k. edges_from (n + 1) edges ++ k ∷ []) (further n (length edges)))
edges-push_edge n (false ∷ edges) = edges-push_edge (n + 1) edges ∙ ap (λ k. edges_from (n + 1) edges ++ k ∷ []) (further n (length edges))

pub edges-push_vertex : (n : ℕ) (edges : List Bool) → edges_from n (edges ++ false ∷ []) ≡ edges_from n edges
edges-push_vertex n [] = refl
edges-push_vertex n (true ∷ edges) = ap (λ ks. n ∷ ks) (edges-push_vertex (n + 1) edges)
edges-push_vertex n (false ∷ edges) = edges-push_vertex (n + 1) edges

pub vertices-push_vertex : (n : ℕ) (edges : List Bool) → vertices_from n (edges ++ false ∷ []) ≡ vertices_from n edges ++ (n + length edges) ∷ []
vertices-push_vertex n [] = ap (λ k. k ∷ []) (let same : n ≡ n + 0 = omega arith in same)
vertices-push_vertex n (false ∷ edges) = ap (λ ks. n ∷ ks) (vertices-push_vertex (n + 1) edges ∙ ap (λ k. vertices_from (n + 1) edges ++ k ∷ []) (further n (length edges)))
vertices-push_vertex n (true ∷ edges) = vertices-push_vertex (n + 1) edges ∙ ap (λ k. vertices_from (n + 1) edges ++ k ∷ []) (further n (length edges))

pub vertices-push_edge : (n : ℕ) (edges : List Bool) → vertices_from n (edges ++ true ∷ []) ≡ vertices_from n edges
vertices-push_edge n [] = refl
vertices-push_edge n (false ∷ edges) = ap (λ ks. n ∷ ks) (vertices-push_edge (n + 1) edges)
vertices-push_edge n (true ∷ edges) = vertices-push_edge (n + 1) edges

-- each variable is one or the other
pub vertices_and_edges : (n : ℕ) (edges : List Bool) → length (vertices_from n edges) + length (edges_from n edges) ≡ length edges
vertices_and_edges n [] = refl
vertices_and_edges n (true ∷ edges) = let rest = vertices_and_edges (n + 1) edges in omega arith
vertices_and_edges n (false ∷ edges) = let rest = vertices_and_edges (n + 1) edges in omega arith

-- what holds of each vertex' number holds of a vertex
pub at_vertex : (P : ℕ → Type 0) (n : ℕ) (edges : List Bool) (k : ℕ) → AllByRecursion P (vertices_from n edges) → slice_get edges k ≡ Some false → P (n + k)
at_vertex P n [] k all is = absurd cc
at_vertex P n (false ∷ edges) zero all is = subst P (let same : n ≡ n + 0 = omega arith in same) all.0
at_vertex P n (true ∷ edges) zero all is = absurd cc
at_vertex P n (false ∷ edges) (suc k) all is = subst P (further n k) (at_vertex P (n + 1) edges k all.1 is)
at_vertex P n (true ∷ edges) (suc k) all is = subst P (further n k) (at_vertex P (n + 1) edges k all is)

-- a variable stays where it is, and a new one comes to the end
pub get-push : {X : Type 0} (xs : List X) (x y : X) (k : ℕ) → slice_get xs k ≡ Some x → slice_get (xs ++ y ∷ []) k ≡ Some x
get-push [] x y k is = absurd cc
get-push (z ∷ xs) x y zero is = is
get-push (z ∷ xs) x y (suc k) is = get-push xs x y k is

pub get-pushed : {X : Type 0} (xs : List X) (x : X) → slice_get (xs ++ x ∷ []) (length xs) ≡ Some x
get-pushed [] x = refl
get-pushed (y ∷ xs) x = get-pushed xs x
