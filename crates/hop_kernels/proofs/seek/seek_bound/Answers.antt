use Rattle.std.proofs.Common.{◌≡◌, ◌<◌, ◌+◌, length, sym, subst, true, ◌∙◌}
use Rattle.std.specs.Prelude.{slice_index}
use Rattle.std.proofs.lemmas.Bool.{lt-ltb}
use Rattle.stage_plan.specs.Walk.{edge_of}
use Rattle.plan_tree.specs.Answers.{is_vertex}
use Rattle.hop_kernels.specs.Fitting.{GainsFit, HopFits}
use Rattle.hop_kernels.proofs.Seeks.{bound-along}
use Rattle.hop_kernels.proofs.seek.seek_bound.Goals as goal

pub seek_along-requires-clause-along : goal.seek_along-requires-clause-along
seek_along-requires-clause-along c =
    let query = c.args.ground.now.query.now in
    let part = c.args.ground.now.part.now in
    let stage = c.args.stage.now in
    let end = slice_index c.args.frame.now.context.words (1 + c.args.way.to) in
    let there = subst (HopFits query) c.requires.hop c.requires.fits.hop_there in
    let vertex : is_vertex part end ≡ true = lt-ltb end (length part.owners) (subst (λ n. end < n) (c.from.ensures ∙ c.graph_vertices.ensures) c.if-end-from.false) in
    bound-along c.args.ground.now.texts.now query part stage c.args.frame.now.context.words c.args.way.out c.args.way.edge c.args.way.to c.requires.room
    c.first_word-word.ensures (subst (λ h. GainsFit query (edge_of h) stage.passage) c.requires.hop c.requires.fits.passage_fits) there.0 c.requires.hop vertex
    (sym c.others_told.ensures ∙ c.if-not-others_told.false)
