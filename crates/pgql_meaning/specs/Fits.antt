-- Which assignments fit a query: those that pass each of its tests.
use Rattle.std.specs.Prelude.{ℕ, ◌==◌, ◌&&◌, Bool, false, List, ◌++◌, length, map, Option, slice_get}
use Rattle.std.specs.List.{list_all, list_any, range_with_len}
use Rattle.std.specs.Option.{option_and_then, option_map_or}
use Rattle.std.specs.Str.{bytes_eq}
use Rattle.element_store.specs.Elements.{Element}
use Rattle.graph_tables.specs.Graph.{Edge, PropertyGraph}
use Rattle.typed_query.specs.Val.{passes, val}
use Rattle.typed_query.specs.declared.expr.Expr.{Expr}
use Rattle.typed_query.specs.declared.query.EdgeJoin.{EdgeJoin}
use Rattle.typed_query.specs.declared.query.Query.{Query}
use Rattle.value_text.specs.Texts.{text_at}
use Rattle.pgql_meaning.specs.Captured.{captured, element_of, number_of}

-- a test of whole assignments
pub data Test : Type 0 where
  -- the label of the variable of this number is right
  Labels : ℕ → Test
  -- the edge runs between the vertices that it joins
  Joined : EdgeJoin → Test
  -- the value is true; null doesn't pass
  Holds : Expr → Test

-- the label is in each of these lists
abbrev pub is_in_lists : List ℕ → List (List (List ℕ)) → Bool
is_in_lists label lists = list_all (list_any (bytes_eq label)) lists

abbrev pub has_labels : List (List ℕ) → List (List (List ℕ)) → Element → Bool
has_labels texts lists element = is_in_lists (text_at texts element.label) lists

abbrev pub is_number : Option ℕ → ℕ → Bool
is_number assigned number = option_map_or (λ n. n == number) assigned false

abbrev pub runs_between : Option ℕ → Option ℕ → Edge → Bool
runs_between source target edge = is_number source edge.source && is_number target edge.target

-- the element of a variable has a label of each of its lists
abbrev pub is_labelled : List (List ℕ) → PropertyGraph → Query → List ℕ → ℕ → Bool
is_labelled texts graph query assignment variable =
    option_map_or (λ x. option_map_or (has_labels texts x.labels) (element_of graph query assignment variable) false) (slice_get query.variables variable) false

-- an edge goes from the vertex of its source variable to that of its target variable
abbrev pub is_joined : PropertyGraph → List ℕ → EdgeJoin → Bool
is_joined graph assignment join =
    option_map_or (runs_between (number_of assignment join.source) (number_of assignment join.target))
    (option_and_then (slice_get graph.edges) (number_of assignment join.edge)) false

-- whether an assignment passes a test
abbrev pub meets : List (List ℕ) → PropertyGraph → Query → List ℕ → Test → Bool
meets texts graph query assignment (Labels variable) = is_labelled texts graph query assignment variable
meets texts graph query assignment (Joined join) = is_joined graph assignment join
meets texts graph query assignment (Holds conjunct) = passes (val texts (captured graph query assignment) conjunct)

-- the tests of a query: one for each variable, each edge, and each part of its condition
abbrev pub tests_of : Query → List Test
tests_of query = map Labels (range_with_len 0 (length query.variables)) ++ (map Joined query.edges ++ map Holds query.conjuncts)

-- the assignment is a homomorphism from the pattern, and passes the condition
abbrev pub fits : List (List ℕ) → PropertyGraph → Query → List ℕ → Bool
fits texts graph query assignment = list_all (meets texts graph query assignment) (tests_of query)
