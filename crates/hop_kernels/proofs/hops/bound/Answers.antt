use Rattle.std.proofs.Common.{◌≡◌, ◌<◌, ◌+◌, ◌==◌, true, false, ap, sym, subst, ◌∙◌, length}
use Rattle.std.specs.Prelude.{slice_index}
use Rattle.std.proofs.lemmas.Bool.{eq-eqb, lt-ltb, ne_eqb}
use Rattle.partition.specs.Parts.{entry_at}
use Rattle.plan_tree.specs.Answers.{is_vertex, to_bound}
use Rattle.hop_kernels.specs.Spots.{entry_in}
use Rattle.hop_kernels.proofs.EntryLists.{answer_at, bound-ahead, bound-at, entry-is}
use Rattle.hop_kernels.proofs.hops.bound.Goals as goal

pub returns-in_default-clause-answer : goal.returns-in_default-clause-answer
returns-in_default-clause-answer c =
    let texts = c.args.ground.now.texts.now in
    let query = c.args.ground.now.query.now in
    let part = c.args.ground.now.part.now in
    let words = c.args.context.now.words in
    let stage = c.args.stage.now in
    let way = c.args.way in
    let end = slice_index words (1 + way.to) in
    let vertex : is_vertex part end ≡ true = lt-ltb end (length part.owners) (subst (λ n. end < n) (c.from.ensures ∙ c.graph_vertices.ensures) c.if-end-from.false) in
    sym (bound-ahead texts query part stage words way.out way.edge way.to c.args.number c.requires.hop vertex (sym c.others_told.ensures ∙ c.if-not-others_told.false)
    ∙ ap (answer_at (to_bound texts query stage.passage way.edge way.to words)) c.in_default.ensures)

pub returns-then-from-end-clause-answer : goal.returns-then-from-end-clause-answer
returns-then-from-end-clause-answer c =
    let texts = c.args.ground.now.texts.now in
    let query = c.args.ground.now.query.now in
    let part = c.args.ground.now.part.now in
    let words = c.args.context.now.words in
    let stage = c.args.stage.now in
    let way = c.args.way in
    let end = slice_index words (1 + way.to) in
    let vertex : is_vertex part end ≡ true = lt-ltb end (length part.owners) (subst (λ n. end < n) (c.from.ensures ∙ c.graph_vertices.ensures) c.if-end-from.false) in
    let entry = entry_in way.out part c.in-Some.place c.args.number in
    let same = ap (λ a. a.other) (entry-is (entry_at way.out part c.in-Some.place c.args.number) c.link-entry.result c.link-entry.ensures) in
    let other : (entry.other == end) ≡ false = ne_eqb entry.other end (λ e. c.if-from-end.true (c.from-2.ensures ∙ sym same ∙ e)) in
    sym (bound-ahead texts query part stage words way.out way.edge way.to c.args.number c.requires.hop vertex (sym c.others_told.ensures ∙ c.if-not-others_told.false)
    ∙ ap (answer_at (to_bound texts query stage.passage way.edge way.to words)) c.in-Some.ensures.same
    ∙ bound-at texts query stage.passage way.edge way.to words entry false other)

pub returns-clause-answer : goal.returns-clause-answer
returns-clause-answer c =
    let texts = c.args.ground.now.texts.now in
    let query = c.args.ground.now.query.now in
    let part = c.args.ground.now.part.now in
    let words = c.args.context.now.words in
    let stage = c.args.stage.now in
    let way = c.args.way in
    let end = slice_index words (1 + way.to) in
    let vertex : is_vertex part end ≡ true = lt-ltb end (length part.owners) (subst (λ n. end < n) (c.from.ensures ∙ c.graph_vertices.ensures) c.if-end-from.false) in
    let entry = entry_in way.out part c.in-Some.place c.args.number in
    let same = ap (λ a. a.other) (entry-is (entry_at way.out part c.in-Some.place c.args.number) c.link-entry.result c.link-entry.ensures) in
    let fits : (entry.other == end) ≡ true = eq-eqb entry.other end (same ∙ sym c.from-2.ensures ∙ c.if-from-end.false) in
    c.along.ensures
    ∙ sym (bound-ahead texts query part stage words way.out way.edge way.to c.args.number c.requires.hop vertex (sym c.others_told.ensures ∙ c.if-not-others_told.false)
    ∙ ap (answer_at (to_bound texts query stage.passage way.edge way.to words)) c.in-Some.ensures.same
    ∙ bound-at texts query stage.passage way.edge way.to words entry true fits)
