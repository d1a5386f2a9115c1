-- What the patterns of MATCH declare, read in order: variables, which of them edges join, and faults.
use Rattle.std.specs.Prelude.{◌≡◌, ℕ, ◌-◌, Bool, true, false, nat_le, if◌then◌else◌, List, [], ◌∷◌, ◌++◌, length, fold, Option, Some, None}
use Rattle.adfs_base.specs.declared.limits.TheConstants.{EDGE_VARIABLES, VERTEX_VARIABLES}
use Rattle.pgql_tree.specs.declared.ast.VertexPat.{VertexPat}
use Rattle.pgql_tree.specs.declared.ast.EdgePat.{EdgePat}
use Rattle.pgql_tree.specs.declared.ast.Path.{Path}
use Rattle.pgql_tree.specs.declared.ast.Placed.{Placed}
use Rattle.pattern_scope.specs.declared.fault.TypeFault.{TypeFault}
use Rattle.pattern_scope.specs.declared.fault.TypeFault.TheVariants as fault
use Rattle.typed_query.specs.declared.query.EdgeJoin.{EdgeJoin}
use Rattle.pattern_scope.specs.declared.scope.Scope.{Scope}
use Rattle.pattern_scope.specs.Names.{variable_of}

abbrev pub nothing_declared : Scope
nothing_declared = record { variables = []; labels = []; vertices = []; edges = []; links = []; faults = [] }

-- a label list of a variable, if the pattern has labels
abbrev pub label_list : ℕ → List (List ℕ) → List (ℕ × List (List ℕ))
label_list number [] = []
label_list number labels = (number, labels) ∷ []

-- a pattern that brings a variable too many
abbrev pub too_many : Bool → ℕ → List TypeFault
too_many is_too_many at = if is_too_many then fault.TooManyVariables at ∷ [] else []

-- a vertex pattern brings a variable, and not the 11th vertex
abbrev pub with_vertex : Scope → Option (List ℕ) → VertexPat → Scope
with_vertex scope name pattern = record {
  variables = scope.variables ++ record { name = name; edge = false } ∷ [];
  labels = scope.labels ++ label_list (length scope.variables) pattern.labels;
  vertices = scope.vertices ++ (length scope.variables, pattern.at) ∷ [];
  edges = scope.edges;
  links = scope.links;
  faults = scope.faults ++ too_many (nat_le VERTEX_VARIABLES (length scope.vertices)) pattern.at;
}

-- an edge pattern brings a variable, and not the 13th edge
abbrev pub with_edge : Scope → Option (List ℕ) → EdgePat → Scope
with_edge scope name pattern = record {
  variables = scope.variables ++ record { name = name; edge = true } ∷ [];
  labels = scope.labels ++ label_list (length scope.variables) pattern.labels;
  vertices = scope.vertices;
  edges = scope.edges;
  links = scope.links;
  faults = scope.faults ++ too_many (nat_le EDGE_VARIABLES (length scope.variables - length scope.vertices)) pattern.at;
}

abbrev pub with_labels : Scope → ℕ → List (List ℕ) → Scope
with_labels scope number labels = record {
  variables = scope.variables;
  labels = scope.labels ++ label_list number labels;
  vertices = scope.vertices;
  edges = scope.edges;
  links = scope.links;
  faults = scope.faults;
}

abbrev pub with_fault : Scope → TypeFault → Scope
with_fault scope f = record {
  variables = scope.variables;
  labels = scope.labels;
  vertices = scope.vertices;
  edges = scope.edges;
  links = scope.links;
  faults = scope.faults ++ f ∷ [];
}

-- A vertex pattern with a name, by the variable of that name: a new vertex, a vertex again, or refused. After
-- it stands the number of the vertex that it is.
abbrev pub named_vertex : Scope → VertexPat → Placed → Option (ℕ × Bool) → Scope × Option ℕ
named_vertex scope pattern placed None = (with_vertex scope (Some placed.name) pattern, Some (length scope.variables))
named_vertex scope pattern placed (Some (number, false)) = (with_labels scope number pattern.labels, Some number)
named_vertex scope pattern placed (Some (number, true)) = (with_fault scope (fault.VariableKind placed.at), None)

abbrev pub vertex_by : Scope → VertexPat → Option Placed → Scope × Option ℕ
vertex_by scope pattern None = (with_vertex scope None pattern, Some (length scope.variables))
vertex_by scope pattern (Some placed) = named_vertex scope pattern placed (variable_of scope.variables placed.name)

-- the scope after a vertex pattern, and the number of the vertex that it is
abbrev pub after_vertex : Scope → VertexPat → Scope × Option ℕ
after_vertex scope pattern = vertex_by scope pattern pattern.name

-- An edge pattern with a name, by the variable of that name: a new edge, or refused. After it stands the number
-- of the edge that it is.
abbrev pub named_edge : Scope → EdgePat → Placed → Option (ℕ × Bool) → Scope × Option ℕ
named_edge scope pattern placed None = (with_edge scope (Some placed.name) pattern, Some (length scope.variables))
named_edge scope pattern placed (Some (number, false)) = (with_fault scope (fault.VariableKind placed.at), None)
named_edge scope pattern placed (Some (number, true)) = (with_fault scope (fault.DoubleName placed.at), None)

abbrev pub edge_by : Scope → EdgePat → Option Placed → Scope × Option ℕ
edge_by scope pattern None = (with_edge scope None pattern, Some (length scope.variables))
edge_by scope pattern (Some placed) = named_edge scope pattern placed (variable_of scope.variables placed.name)

-- the scope after an edge pattern, and the number of the edge that it is
abbrev pub after_edge : Scope → EdgePat → Scope × Option ℕ
after_edge scope pattern = edge_by scope pattern pattern.name

-- the join of an edge between the vertices on its left and its right
abbrev pub joins_of : Option ℕ → Bool → ℕ → ℕ → List EdgeJoin
joins_of None out left right = []
joins_of (Some edge) true left right = record { edge = edge; source = left; target = right } ∷ []
joins_of (Some edge) false left right = record { edge = edge; source = right; target = left } ∷ []

-- an edge pattern joins its two ends, if both are vertices
abbrev pub linked : Scope → Option ℕ → Bool → Option ℕ → Option ℕ → Scope
linked scope edge out (Some left) (Some right) = record {
  variables = scope.variables;
  labels = scope.labels;
  vertices = scope.vertices;
  edges = scope.edges ++ joins_of edge out left right;
  links = scope.links ++ (left, right) ∷ [];
  faults = scope.faults;
}
linked scope edge out (Some left) None = scope
linked scope edge out None right = scope

-- the scope after an edge pattern and the vertex pattern after it, and that vertex
abbrev pub after_step : Scope × Option ℕ → EdgePat × VertexPat → Scope × Option ℕ
after_step before step =
    let edge = after_edge before.0 step.0 in
    let vertex = after_vertex edge.0 step.1 in
    (linked vertex.0 edge.1 step.0.out before.1 vertex.1, vertex.1)

abbrev pub after_path : Scope → Path → Scope
after_path scope path = (fold after_step (after_vertex scope path.first) path.steps).0

-- what all the patterns declare
abbrev pub scope_of : List Path → Scope
scope_of paths = fold after_path nothing_declared paths

-- a clause of a function that changes a scope and returns a vertex or an edge
abbrev pub Gives : Scope × Option ℕ → Scope → Option ℕ → Type 0
Gives wanted scope number = wanted ≡ (scope, number)
