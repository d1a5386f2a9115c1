use Rattle.std.proofs.Common.{ap, sym, ◌∙◌}
use Rattle.plan_tree.specs.Answers.{to_neighbour}
use Rattle.hop_kernels.proofs.EntryLists.{answer_at, neighbour-ahead}
use Rattle.hop_kernels.proofs.hops.neighbour.Goals as goal

pub returns-in_default-clause-answer : goal.returns-in_default-clause-answer
returns-in_default-clause-answer c =
    let texts = c.args.ground.now.texts.now in
    let query = c.args.ground.now.query.now in
    let words = c.args.context.now.words in
    let stage = c.args.stage.now in
    let way = c.args.way in
    sym (neighbour-ahead texts query c.args.ground.now.part.now stage words way.out way.edge way.to c.args.number c.requires.hop (sym c.others_told.ensures ∙ c.if-not-others_told.false)
    ∙ ap (answer_at (to_neighbour texts query stage.passage way.edge way.to words)) c.in_default.ensures)

pub returns-clause-answer : goal.returns-clause-answer
returns-clause-answer c =
    let texts = c.args.ground.now.texts.now in
    let query = c.args.ground.now.query.now in
    let words = c.args.context.now.words in
    let stage = c.args.stage.now in
    let way = c.args.way in
    c.along.ensures
    ∙ sym (neighbour-ahead texts query c.args.ground.now.part.now stage words way.out way.edge way.to c.args.number c.requires.hop (sym c.others_told.ensures ∙ c.if-not-others_told.false)
    ∙ ap (answer_at (to_neighbour texts query stage.passage way.edge way.to words)) c.in-Some.ensures.same)
