-- Contexts that stand for the matches of a query, in whatever order, give its answer.
use Rattle.std.proofs.Common.{◌≡◌, ℕ, List, [], ◌∷◌, map, refl, ap, ◌∙◌}
use Rattle.std.specs.List.{IsDistinct}
use Rattle.std.specs.List.Sorted.{IsPermutation}
use Rattle.std.specs.Str.{bytes_eq}
use Rattle.answer_rows.specs.Arranged.{rows_of}
use Rattle.graph_tables.specs.Graph.{PropertyGraph}
use Rattle.match_context.specs.declared.context.Context.{Context}
use Rattle.pgql_meaning.specs.Answer.{all_matches, answer_of, arrangement_of, shown, shown_by}
use Rattle.pgql_meaning.specs.Captured.{captured}
use Rattle.pgql_meaning.specs.Shown.{HasMeaning, HasShown}
use Rattle.pgql_meaning.proofs.AnyOrder.{answer_of-permuted}
use Rattle.typed_query.specs.WellFormed.{IsWellFormed}
use Rattle.typed_query.specs.declared.query.Query.{Query}
use Rattle.result_collect.specs.Contexts.{StandForEach, StandsFor, numbers_in, shown_in}

module _ (texts : List (List ℕ)) (graph : PropertyGraph) (query : Query) where
  shown-in : (context : Context) (assignment : List ℕ) → StandsFor graph query context assignment → shown_in texts query context ≡ shown texts graph query assignment
  shown-in context assignment stands =
      ap (λ values. shown_by texts query values (numbers_in query context)) stands.values
      ∙ ap (shown_by texts query (captured graph query assignment)) stands.numbers

  -- what the contexts show, their assignments do
  pub shown-for_each : (contexts : List Context) (matches : List (List ℕ)) → StandForEach graph query contexts matches
      → map (shown_in texts query) contexts ≡ map (shown texts graph query) matches
  shown-for_each [] [] stand = refl
  shown-for_each [] (assignment ∷ matches) stand = absurd stand
  shown-for_each (context ∷ contexts) [] stand = absurd stand
  shown-for_each (context ∷ contexts) (assignment ∷ matches) stand =
      rw (shown-in context assignment stand.0, shown-for_each contexts matches stand.1) refl

  pub rows-of_contexts : IsDistinct bytes_eq texts → HasShown texts graph → HasMeaning texts query → IsWellFormed query
      → (contexts : List Context) (matches : List (List ℕ)) → StandForEach graph query contexts matches → IsPermutation (all_matches texts graph query) matches
      → rows_of texts (arrangement_of query) (map (shown_in texts query) contexts) ≡ answer_of texts graph query
  rows-of_contexts distinct graph_shown meaning formed contexts matches stand permuted =
      ap (rows_of texts (arrangement_of query)) (shown-for_each contexts matches stand)
      ∙ answer_of-permuted texts graph query distinct graph_shown meaning formed.keys_are_selected matches permuted
