-- What each query that has a meaning keeps to.
use Rattle.std.specs.Prelude.{◌≡◌, ℕ, ◌+◌, ◌<◌, ◌≤◌, Bool, true, false, List, [], ◌∷◌, ◌++◌, length, map, All, Some}
use Rattle.std.specs.List.{Contains, slice_get}
use Rattle.adfs_base.specs.declared.limits.TheConstants.{EDGE_VARIABLES, VERTEX_VARIABLES}
use Rattle.typed_query.specs.declared.expr.Expr.{Expr}
use Rattle.typed_query.specs.declared.query.EdgeJoin.{EdgeJoin}
use Rattle.typed_query.specs.declared.query.Query.{Query}
use Rattle.typed_query.specs.Parts.{HasCapturesBelow}

-- whether each variable is an edge
abbrev pub are_edges : Query → List Bool
are_edges query = map (λ variable. variable.edge) query.variables

-- the numbers of the edges among variables that are counted from n
abbrev pub edges_from : ℕ → List Bool → List ℕ
edges_from n [] = []
edges_from n (true ∷ others) = n ∷ edges_from (n + 1) others
edges_from n (false ∷ others) = edges_from (n + 1) others

-- and those of the vertices
abbrev pub vertices_from : ℕ → List Bool → List ℕ
vertices_from n [] = []
vertices_from n (true ∷ others) = vertices_from (n + 1) others
vertices_from n (false ∷ others) = n ∷ vertices_from (n + 1) others

abbrev pub edge_variables : Query → List ℕ
edge_variables query = edges_from 0 (are_edges query)

abbrev pub vertex_variables : Query → List ℕ
vertex_variables query = vertices_from 0 (are_edges query)

-- there is a variable with this number, and it is a vertex
abbrev pub IsVertex : List Bool → ℕ → Type 0
IsVertex edges number = slice_get edges number ≡ Some false

-- both ends of a join are vertices
pub record JoinsVertices (edges : List Bool) (join : EdgeJoin) : Type 0 where
  pub source : IsVertex edges join.source
  pub target : IsVertex edges join.target

-- a set of variables that has the first one, and of each edge both ends or neither
pub record IsClosed (query : Query) (set : ℕ → Bool) : Type 0 where
  pub has_first : set 0 ≡ true
  pub both_or_neither : All (λ join. set join.source ≡ set join.target) query.edges

-- all expressions of a query
abbrev pub expressions : Query → List Expr
expressions query = query.conjuncts ++ map (λ column. column.0) query.select ++ map (λ key. key.0) query.keys

pub record IsWellFormed (query : Query) : Type 0 where
  pub few_vertices : length (vertex_variables query) ≤ VERTEX_VARIABLES
  pub few_edges : length (edge_variables query) ≤ EDGE_VARIABLES
  pub begins_with_vertex : IsVertex (are_edges query) 0
  -- each edge is joined once, and the joins stand in the order of their edges
  pub edges_are_joined : map (λ join. join.edge) query.edges ≡ edge_variables query
  pub ends_are_vertices : All (JoinsVertices (are_edges query)) query.edges
  pub captures_name_variables : All (λ capture. capture.variable < length query.variables) query.captures
  pub uses_are_captured : All (HasCapturesBelow (length query.captures)) (expressions query)
  -- with DISTINCT each key is the expression of a select item
  pub keys_are_selected : query.distinct ≡ true → All (λ key. Contains (map (λ column. column.0) query.select) key.0) query.keys
  -- edges join each vertex with the first one
  pub is_connected : (set : ℕ → Bool) → IsClosed query set → (number : ℕ) → IsVertex (are_edges query) number → set number ≡ true
