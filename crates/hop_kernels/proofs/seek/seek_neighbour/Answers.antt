use Rattle.std.proofs.Common.{sym, subst, ◌∙◌}
use Rattle.stage_plan.specs.Walk.{edge_of}
use Rattle.hop_kernels.specs.Fitting.{GainsFit, HopFits}
use Rattle.hop_kernels.proofs.Seeks.{neighbour-along}
use Rattle.hop_kernels.proofs.seek.seek_neighbour.Goals as goal

pub seek_along-requires-clause-along : goal.seek_along-requires-clause-along
seek_along-requires-clause-along c =
    let query = c.args.ground.now.query.now in
    let stage = c.args.stage.now in
    let there = subst (HopFits query) c.requires.hop c.requires.fits.hop_there in
    neighbour-along c.args.ground.now.texts.now query c.args.ground.now.part.now stage c.args.frame.now.context.words c.args.way.out c.args.way.edge c.args.way.to c.requires.room
    c.first_word-word.ensures (subst (λ h. GainsFit query (edge_of h) stage.passage) c.requires.hop c.requires.fits.passage_fits) there.0 there.1 c.requires.hop
    (sym c.others_told.ensures ∙ c.if-not-others_told.false)
