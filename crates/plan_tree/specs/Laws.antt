-- What holds of the tree of each plan.
use Rattle.std.specs.Prelude.{◌≡◌, ℕ, ◌<◌, ◌≤◌, ◌^◌, Bool, List, count_by, length}
use Rattle.std.specs.List.{AllByRecursion}
use Rattle.std.specs.List.Sorted.{IsPermutation}
use Rattle.adfs_base.specs.declared.limits.TheConstants.{CONTEXT_WORDS}
use Rattle.graph_tables.specs.Graph.{EndsIn, PropertyGraph}
use Rattle.graph_tables.specs.Properties.{SchemaLists}
use Rattle.match_context.specs.Bags.{SameBag}
use Rattle.match_context.specs.Leaves.{tree_leaves}
use Rattle.match_context.specs.Tree.{IsTree}
use Rattle.match_context.specs.declared.context.Context.{Context}
use Rattle.partition.specs.Owners.{IsOwner}
use Rattle.partition.specs.Parts.{parts_of}
use Rattle.partition.specs.declared.owner.Owner.{Owner}
use Rattle.pgql_meaning.specs.Answer.{all_matches}
use Rattle.pgql_meaning.specs.Shown.{HasShown}
use Rattle.result_collect.specs.Contexts.{StandForEach}
use Rattle.typed_expr.specs.WellFormed.{IsWellFormed}
use Rattle.typed_expr.specs.declared.query.Query.{Query}
use Rattle.stage_plan.specs.Moves.{AskAll, Move}
use Rattle.stage_plan.specs.Plans.{plan_of, words_of}
use Rattle.plan_tree.specs.Kinds.{HasKinds}
use Rattle.plan_tree.specs.PlanTree.{PlanOverParts, tree_of}
use Rattle.plan_tree.specs.Rows.{rows_of, unbound}
use Rattle.plan_tree.specs.Told.{AreTold}

-- Each test is passed as often in the one list as in the other.
abbrev pub SameCounts : {X : Type 0} → List X → List X → Type 0
SameCounts {X} xs ys = (test : X → Bool) → count_by test xs ≡ count_by test ys

-- Moves that bind each variable and ask each test of a query lead to each match once, and to nothing else.
abbrev pub MovesLeadToAll : Type 0
MovesLeadToAll = (texts : List (List ℕ)) (graph : PropertyGraph) (query : Query) (moves : List Move)
    → AllByRecursion (EndsIn graph.vertices) graph.edges → AskAll query moves
    → SameCounts (rows_of texts graph query moves (unbound query)) (all_matches texts graph query)

-- a query's plan over the parts of a graph
abbrev pub over_parts : List (List ℕ) → PropertyGraph → Query → Owner → ℕ → PlanOverParts
over_parts texts graph query owner machines = record { texts = texts; query = query; plan = plan_of query; parts = parts_of graph owner machines }

-- Over the parts of a graph, the leaves of the tree of a query's plan stand for its matches, each for one, whoever owns the
-- vertices and however many machines there are. So do their captured values.
abbrev pub LeavesAreAll : Type 0
LeavesAreAll = (texts : List (List ℕ)) (graph : PropertyGraph) (query : Query) (owner : Owner) (machines : ℕ)
    → 0 < machines → IsOwner owner (length graph.vertices) machines
    → AllByRecursion (EndsIn graph.vertices) graph.edges → length graph.vertices < 2 ^ 32 → length graph.edges < 2 ^ 32 → HasShown texts graph
    → IsWellFormed query → words_of query ≤ CONTEXT_WORDS → AreTold graph query
    → (matches : List (List ℕ))
    × StandForEach graph query (tree_leaves (tree_of (over_parts texts graph query owner machines))) matches
    × SameCounts matches (all_matches texts graph query)

-- Those trees are trees: a child is of the following stage and on a machine that there is, rows come at the last stage.
abbrev pub PlansMakeTrees : Type 0
PlansMakeTrees = (texts : List (List ℕ)) (graph : PropertyGraph) (query : Query) (owner : Owner) (machines : ℕ)
    → 0 < machines → IsOwner owner (length graph.vertices) machines
    → AllByRecursion (EndsIn graph.vertices) graph.edges → IsWellFormed query
    → IsTree (tree_of (over_parts texts graph query owner machines))

-- Where a graph's values are of the kinds of a schema, and the query's captures too, what is captured can be said in words.
abbrev pub KindsAreTold : Type 0
KindsAreTold = (texts : List (List ℕ)) (schema : SchemaLists) (graph : PropertyGraph) (query : Query)
    → HasShown texts graph → HasKinds texts schema graph query → AreTold graph query

-- Rows that are the leaves of the tree of a query's plan, in whatever order, stand for its matches, each for one.
abbrev pub RowsAreAll : Type 0
RowsAreAll = (texts : List (List ℕ)) (schema : SchemaLists) (graph : PropertyGraph) (query : Query) (owner : Owner) (machines : ℕ)
    → 0 < machines → IsOwner owner (length graph.vertices) machines
    → AllByRecursion (EndsIn graph.vertices) graph.edges → length graph.vertices < 2 ^ 32 → length graph.edges < 2 ^ 32 → HasShown texts graph
    → IsWellFormed query → words_of query ≤ CONTEXT_WORDS → HasKinds texts schema graph query
    → (rows : List Context) → SameBag rows (tree_leaves (tree_of (over_parts texts graph query owner machines)))
    → (matches : List (List ℕ)) × StandForEach graph query rows matches × IsPermutation (all_matches texts graph query) matches
