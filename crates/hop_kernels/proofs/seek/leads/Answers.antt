use Rattle.std.proofs.Common.{true, false, ap, refl, sym, ◌∙◌}
use Rattle.element_store.specs.Elements.{Element}
use Rattle.partition.specs.Parts.{entry_at}
use Rattle.stage_plan.specs.Walk.{captures_of}
use Rattle.plan_tree.specs.Answers.{all_hold}
use Rattle.plan_tree.specs.Told.{written}
use Rattle.hop_kernels.specs.Spots.{entry_in}
use Rattle.hop_kernels.proofs.EntryLists.{edge-is, entry-is}
use Rattle.hop_kernels.proofs.Seeks.{leads-of}
use Rattle.hop_kernels.proofs.seek.leads.Goals as goal

pub returns-then-not-ends_at : goal.returns-then-not-ends_at
returns-then-not-ends_at c =
    let part = c.args.ground.now.part.now in
    let there = entry_at c.args.aim.out part c.args.aim.place c.args.number in
    let entry = entry_in c.args.aim.out part c.args.aim.place c.args.number in
    sym (leads-of c.args.ground.now.texts.now c.args.ground.now.query.now c.args.gains.now c.args.aim.edge c.args.aim.end c.args.context.now.words entry c.args.entry false _ _
    (entry-is there c.args.entry c.requires.entry) (sym c.ends_at.ensures ∙ c.if-not-ends_at.true) refl refl)

pub returns : goal.returns
returns c =
    let texts = c.args.ground.now.texts.now in
    let query = c.args.ground.now.query.now in
    let part = c.args.ground.now.part.now in
    let words = c.args.context.now.words in
    let there = entry_at c.args.aim.out part c.args.aim.place c.args.number in
    let entry = entry_in c.args.aim.out part c.args.aim.place c.args.number in
    c.all_hold_by.ensures
    ∙ ap (λ (e : Element). all_hold texts query (written query e (captures_of query c.args.aim.edge) words) c.args.gains.now.conjuncts) (edge-is there)
    ∙ sym (leads-of texts query c.args.gains.now c.args.aim.edge c.args.aim.end words entry c.args.entry true true _
    (entry-is there c.args.entry c.requires.entry) (sym c.ends_at.ensures ∙ c.if-not-ends_at.false) c.requires.label refl)
