use Rattle.std.proofs.Common.{◌≡◌, ℕ, ◌+◌, Bool, List, [], ◌∷◌, ◌++◌, false, map, OnOk, filter, sym, ap, subst, arith, rules, ◌∙◌, append-nil, append_assoc}
use Rattle.std.proofs.lemmas.Grind.{common_steps}
use Rattle.std.proofs.lemmas.List.{take_at}
use Rattle.answer_rows.specs.Arranged.{Shown}
use Rattle.graph_tables.specs.Graph.{PropertyGraph}
use Rattle.typed_query.specs.declared.query.Query.{Query}
use Rattle.typed_query.specs.declared.query.Variable.{Variable}
use Rattle.pgql_meaning.specs.Answer.{shown}
use Rattle.pgql_meaning.specs.Assignments.{extensions, range_of, ranges_of}
use Rattle.pgql_meaning.specs.Fits.{fits}
use Rattle.pgql_meaning.specs.Pruned.{may_fit}
use Rattle.pgql_meaning.proofs.Extensions.{by_numbers, by_numbers-all, by_numbers-more, extensions-alone}
use Rattle.pgql_meaning.proofs.Pruning.{nothing_fits}
use Rattle.pgql_meaning.proofs.search.+extend.Goals as goal

-- nothing was added where nothing fits
none : (texts : List (List ℕ)) (graph : PropertyGraph) (query : Query) (front ranges : List ℕ) (found : List Shown) → may_fit texts graph query front ≡ false
    → found ≡ found ++ map (shown texts graph query) (extensions (fits texts graph query) front ranges)
none texts graph query front ranges found ruled_out = rw (nothing_fits texts graph query front ranges ruled_out) (sym (append-nil found))

pub returns-then-not-may_fit-clause-found : goal.returns-then-not-may_fit-clause-found
returns-then-not-may_fit-clause-found t c =
    let fails : c.may_fit.result ≡ false = search rules in
    let ruled_out = rw c.deref.ensures.value at c.may_fit.ensures in
    none c.args.texts.now c.args.graph.now c.args.query.now c.args.numbers.now.items (ranges_of c.args.graph.now c.args.variables.now) c.args.found.now.matches.items (sym ruled_out ∙ fails)

-- one number more
more : (f : List ℕ → Shown) (passes : List ℕ → Bool) (front front' ns : List ℕ) (n : ℕ) (old now next : List Shown)
    → now ≡ old ++ by_numbers f passes front ns n → front' ≡ front ++ n ∷ [] → next ≡ now ++ map f (extensions passes front' ns)
    → next ≡ old ++ by_numbers f passes front ns (n + 1)
more f passes front front' ns n old now next is is_front is_next =
    is_next ∙ rw (is, is_front) (append_assoc old (by_numbers f passes front ns n) (map f (extensions passes (front ++ n ∷ []) ns)))
    ∙ ap (λ added. old ++ added) (sym (by_numbers-more f passes front ns n))

pub loop-number-preserved : goal.loop-number-preserved
loop-number-preserved t c =
    let front : c.push.new.self.items ≡ c.args.numbers.now.items ++ c.loop-number.number ∷ [] = search rules in (
      grind (arith, common_steps, take_at),
      more (shown c.args.texts.now c.args.graph.now c.args.query.now) (fits c.args.texts.now c.args.graph.now c.args.query.now) c.args.numbers.now.items c.push.new.self.items
          (ranges_of c.args.graph.now c.in-Some.others.now) c.loop-number.number c.args.found.now.matches.items c.loop-number.found.matches.items c.extend.new.found.matches.items
          c.loop-number.invariant.1 front c.in_ok-extend-in-Some.ensures.found,
    )

-- an assignment alone
alone : (texts : List (List ℕ)) (graph : PropertyGraph) (query : Query) (variables : List Variable) → variables ≡ [] → (front : List ℕ)
    → extensions (fits texts graph query) front (ranges_of graph variables) ≡ filter (fits texts graph query) (front ∷ [])
alone texts graph query variables is front = rw is (extensions-alone (fits texts graph query) front)

pub returns-in-None-clause-found : goal.returns-in-None-clause-found
returns-in-None-clause-found t c =
    let nothing : c.args.variables.now ≡ [] = grind (arith, common_steps) in
    let added = rw c.deref-in-None.ensures.value at c.add_if_fits.ensures in
    subst (λ matches. OnOk c.add_if_fits.result (c.add_if_fits.new.found.matches.items ≡ c.args.found.now.matches.items ++ map (shown c.args.texts.now c.args.graph.now c.args.query.now) matches))
    (sym (alone c.args.texts.now c.args.graph.now c.args.query.now c.args.variables.now nothing c.args.numbers.now.items)) added

-- all numbers of the variable
all : (f : List ℕ → Shown) (passes : List ℕ → Bool) (graph : PropertyGraph) (front : List ℕ) (variables others : List Variable) (variable : Variable) (n : ℕ) (old now : List Shown)
    → variables ≡ variable ∷ others → n ≡ range_of graph variable → now ≡ old ++ by_numbers f passes front (ranges_of graph others) n
    → now ≡ old ++ map f (extensions passes front (ranges_of graph variables))
all f passes graph front variables others variable n old now is is_range is_now =
    is_now ∙ rw (is, is_range) (ap (λ added. old ++ added) (by_numbers-all f passes front (range_of graph variable) (ranges_of graph others)))

pub returns-after-loop-number-clause-found : goal.returns-after-loop-number-clause-found
returns-after-loop-number-clause-found t c =
    let variables : c.args.variables.now ≡ c.in-Some.variable.now ∷ c.in-Some.others.now = search rules in
    let whole : c.loop-number.number ≡ range_of c.args.graph.now c.in-Some.variable.now = search rules in
    all (shown c.args.texts.now c.args.graph.now c.args.query.now) (fits c.args.texts.now c.args.graph.now c.args.query.now) c.args.graph.now c.args.numbers.now.items
    c.args.variables.now c.in-Some.others.now c.in-Some.variable.now c.loop-number.number c.args.found.now.matches.items c.loop-number.found.matches.items variables whole c.loop-number.invariant.1
