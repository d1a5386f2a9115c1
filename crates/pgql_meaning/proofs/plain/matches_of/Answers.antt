use Rattle.std.proofs.Common.{◌≡◌, ℕ, ◌++◌, List, [], map, ap}
use Rattle.answer_rows.specs.Arranged.{Shown}
use Rattle.graph_tables.specs.Graph.{PropertyGraph}
use Rattle.typed_query.specs.declared.query.Query.{Query}
use Rattle.typed_query.specs.declared.query.Variable.{Variable}
use Rattle.pgql_meaning.specs.Answer.{all_matches, shown}
use Rattle.pgql_meaning.specs.Assignments.{extensions, ranges_of}
use Rattle.pgql_meaning.specs.Fits.{fits}
use Rattle.pgql_meaning.proofs.Extensions.{extensions-of_nothing}
use Rattle.pgql_meaning.proofs.plain.matches_of.Goals as goal

-- what extends nothing is all
found_all : (texts : List (List ℕ)) (graph : PropertyGraph) (query : Query) (front : List ℕ) (variables : List Variable) (old found : List Shown)
    → front ≡ [] → variables ≡ query.variables → old ≡ []
    → found ≡ old ++ map (shown texts graph query) (extensions (fits texts graph query) front (ranges_of graph variables))
    → found ≡ map (shown texts graph query) (all_matches texts graph query)
found_all texts graph query front variables old found is_front is_variables is_old is_found =
    rw (is_found, is_front, is_variables, is_old) (ap (map (shown texts graph query)) (extensions-of_nothing (fits texts graph query) (ranges_of graph query.variables)))

pub returns : goal.returns
returns c =
    found_all c.args.texts.now c.args.graph.now c.args.query.now c.new-numbers.result.items c.as_slice-variables.result.now c.new-2.result.items c.extend.new.found.matches.items
    c.new-numbers.ensures.items c.as_slice-variables.ensures c.new-2.ensures.items c.in_ok-extend.ensures.found
