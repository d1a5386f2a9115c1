-- Contexts that stand for assignments, each for one, whatever their order.
use Rattle.std.proofs.Common.{ℕ, ◌+◌, List, [], ◌∷◌, ◌++◌, map, flat_map, refl, sym, ap₂, ◌∙◌}
use Rattle.std.specs.List.{AllByRecursion}
use Rattle.graph_tables.specs.Graph.{PropertyGraph}
use Rattle.match_context.specs.Leaves.{rows_of}
use Rattle.match_context.specs.Tree.{Below, Item, Leaf, Pass}
use Rattle.match_context.specs.declared.context.Context.{Context}
use Rattle.result_collect.specs.Contexts.{StandForEach, StandsFor}
use Rattle.typed_expr.specs.declared.query.Query.{Query}
use Rattle.plan_tree.specs.Laws.{SameCounts}
use Rattle.plan_tree.proofs.Bags.{count_by-append}

module _ (g : PropertyGraph) (q : Query) where
  -- each context stands for one of the assignments, and each assignment has as many as it stands there
  abbrev pub Lead : List Context → List (List ℕ) → Type 0
  Lead contexts rows = (told : List (List ℕ)) × StandForEach g q contexts told × SameCounts told rows

  pub lead-none : Lead [] []
  lead-none = ([], tt, λ t. refl)

  pub lead-one : (context : Context) (a : List ℕ) → StandsFor g q context a → Lead (context ∷ []) (a ∷ [])
  lead-one context a stands = (a ∷ [], (stands, tt), λ t. refl)

  each-append : (xs ys : List Context) (ls bs : List (List ℕ)) → StandForEach g q xs ls → StandForEach g q ys bs → StandForEach g q (xs ++ ys) (ls ++ bs)
  each-append [] ys [] bs here more = more
  each-append (x ∷ xs) ys (a ∷ ls) bs here more = (here.0, each-append xs ys ls bs here.1 more)
  each-append [] ys (a ∷ ls) bs here more = absurd here
  each-append (x ∷ xs) ys [] bs here more = absurd here

  pub lead-append : (xs ys : List Context) (ls bs : List (List ℕ)) → Lead xs ls → Lead ys bs → Lead (xs ++ ys) (ls ++ bs)
  lead-append xs ys ls bs here more = (
    here.0 ++ more.0,
    each-append xs ys here.0 more.0 here.1 more.1,
    λ t. count_by-append t here.0 more.0 ∙ ap₂ ◌+◌ (here.2 t) (more.2 t) ∙ sym (count_by-append t ls bs),
  )

  pub lead-same : (xs : List Context) (ls bs : List (List ℕ)) → SameCounts ls bs → Lead xs ls → Lead xs bs
  lead-same xs ls bs same here = (here.0, here.1, λ t. here.2 t ∙ same t)

  -- the rows at or below an answer
  abbrev pub rows_at : (ℕ → Context → List Context) → Item → List Context
  rows_at below (Below context machine) = below machine context
  rows_at below (Leaf context) = context ∷ []
  rows_at below Pass = []

  pub lead-items : {X : Type 0} (below : ℕ → Context → List Context) (item : X → Item) (rows : X → List (List ℕ)) (xs : List X)
      → AllByRecursion (λ x. Lead (rows_at below (item x)) (rows x)) xs → Lead (rows_of below (map item xs)) (flat_map rows xs)
  lead-items below item rows [] each = lead-none
  lead-items below item rows (x ∷ xs) each = at_item (item x) each.0 (lead-items below item rows xs each.1) where
    at_item : (i : Item) → Lead (rows_at below i) (rows x) → Lead (rows_of below (map item xs)) (flat_map rows xs)
        → Lead (rows_of below (i ∷ map item xs)) (rows x ++ flat_map rows xs)
    at_item (Below context machine) here later = lead-append (below machine context) (rows_of below (map item xs)) (rows x) (flat_map rows xs) here later
    at_item (Leaf context) here later = lead-append (context ∷ []) (rows_of below (map item xs)) (rows x) (flat_map rows xs) here later
    at_item Pass here later = lead-append [] (rows_of below (map item xs)) (rows x) (flat_map rows xs) here later
