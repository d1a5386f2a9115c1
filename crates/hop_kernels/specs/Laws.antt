-- What the trees of plans lead to.
use Rattle.std.specs.Prelude.{◌≡◌, ℕ, ◌<◌, ◌≤◌, ◌^◌, List, length}
use Rattle.std.specs.List.{AllByRecursion}
use Rattle.std.specs.List.Sorted.{IsPermutation}
use Rattle.adfs_base.specs.declared.limits.TheConstants.{CONTEXT_WORDS}
use Rattle.graph_tables.specs.Graph.{EndsIn, PropertyGraph}
use Rattle.graph_tables.specs.Properties.{SchemaLists}
use Rattle.match_context.specs.Bags.{SameBag}
use Rattle.match_context.specs.Leaves.{tree_leaves}
use Rattle.match_context.specs.declared.context.Context.{Context}
use Rattle.partition.specs.Owners.{IsOwner}
use Rattle.partition.specs.declared.owner.Owner.{Owner}
use Rattle.pgql_meaning.specs.Answer.{all_matches}
use Rattle.pgql_meaning.specs.Shown.{HasShown}
use Rattle.result_collect.specs.Contexts.{StandForEach}
use Rattle.typed_expr.specs.WellFormed.{IsWellFormed}
use Rattle.stage_plan.specs.Plans.{words_of}
use Rattle.plan_tree.specs.Kinds.{HasKinds}
use Rattle.plan_tree.specs.Laws.{over_parts}
use Rattle.plan_tree.specs.PlanTree.{PlanOverParts, tree_of}

-- Rows that are the leaves of a query's tree over the parts of a graph, in whatever order, stand for the query's matches, each for
-- one, whoever owns the vertices and however many machines there are.
abbrev pub TreesLeadToAll : Type 0
TreesLeadToAll = (over : PlanOverParts) (schema : SchemaLists) (graph : PropertyGraph) (owner : Owner) (machines : ℕ)
    → over ≡ over_parts over.texts graph over.query owner machines
    → 0 < machines → IsOwner owner (length graph.vertices) machines
    → AllByRecursion (EndsIn graph.vertices) graph.edges → length graph.vertices < 2 ^ 32 → length graph.edges < 2 ^ 32 → HasShown over.texts graph
    → IsWellFormed over.query → words_of over.query ≤ CONTEXT_WORDS → HasKinds over.texts schema graph over.query
    → (rows : List Context) → SameBag rows (tree_leaves (tree_of over))
    → (matches : List (List ℕ)) × StandForEach graph over.query rows matches × IsPermutation (all_matches over.texts graph over.query) matches
