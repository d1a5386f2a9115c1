use Rattle.std.proofs.Common.{◌<◌, length, sym, ◌∙◌}
use Rattle.std.proofs.Math.Numerals.{lt_of_le_of_ne}
use Rattle.partition.specs.declared.link.Link.{Link}
use Rattle.hop_kernels.proofs.Rising.{links-rising}
use Rattle.hop_kernels.proofs.Seeks.{link-at, sought-child, sought-past}
use Rattle.hop_kernels.proofs.seek.seek_along.Goals as goal

no_link : Link
no_link = record { other = 0; edge = 0; machine = 0; label = 0 }

pub find-at-requires-clause-rising : goal.find-at-requires-clause-rising
find-at-requires-clause-rising c = links-rising c.args.ground.now.part.now c.args.path.out c.in-Some.place c.links-entries.result.now c.requires.rising c.links-entries.ensures.links

pub returns-then-at-entries : goal.returns-then-at-entries
returns-then-at-entries c =
    sought-past c.args.ground.now.texts.now c.args.ground.now.query.now c.args.ground.now.part.now c.args.stage.now c.args.path.out c.args.path.edge c.args.path.to c.args.path.end
    c.args.frame.now.context.words c.in-Some.place c.links-entries.result.now c.requires.along (sym c.place_in.ensures.place ∙ c.in-Some.is) c.links-entries.ensures.links
    c.args.frame.now c.find-at.result no_link c.find-at.ensures.rising c.if-at-entries.true c.find-at.ensures.passed

pub put_child-requires-clause-entry : goal.put_child-requires-clause-entry
put_child-requires-clause-entry c =
    let below : c.find-at.result < length c.links-entries.result.now = lt_of_le_of_ne c.find-at.ensures.within c.if-at-entries.false in
    link-at c.args.path.out c.args.ground.now.part.now c.in-Some.place c.find-at.result c.links-entries.result.now (record { other = 0; edge = 0; machine = 0; label = 0 }) c.links-entries.ensures.links below

pub returns : goal.returns
returns c =
    let below : c.find-at.result < length c.links-entries.result.now = lt_of_le_of_ne c.find-at.ensures.within c.if-at-entries.false in
    sought-child c.args.ground.now.texts.now c.args.ground.now.query.now c.args.ground.now.part.now c.args.stage.now c.args.path.out c.args.path.edge c.args.path.to c.args.path.end
    c.args.frame.now.context.words c.in-Some.place c.links-entries.result.now c.requires.along (sym c.place_in.ensures.place ∙ c.in-Some.is) c.links-entries.ensures.links
    c.args.frame.now c.put_child.new.frame c.find-at.result (record { other = 0; edge = 0; machine = 0; label = 0 }) c.find-at.ensures.rising below c.find-at.ensures.passed
    (c.find-at.ensures.found below) c.put_child.ensures
