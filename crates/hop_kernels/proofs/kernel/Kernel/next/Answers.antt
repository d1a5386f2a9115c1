use Rattle.std.proofs.Common.{◌≡◌, [], get_or, Some, ap, ap₂, sym, subst, ◌∙◌}
use Rattle.std.specs.Prelude.{slice_get}
use Rattle.std.specs.List.{AllByRecursion}
use Rattle.std.proofs.lemmas.Option.{slice_get-get_or}
use Rattle.match_context.specs.Tree.{answer}
use Rattle.plan_tree.specs.Answers.{ahead, place_after, words_after}
use Rattle.plan_tree.specs.PlanTree.{taken}
use Rattle.plan_tree.proofs.Tells.{all-get}
use Rattle.hop_kernels.specs.Fitting.{StageFits}
use Rattle.hop_kernels.proofs.StageFitting.{plan_fits}
use Rattle.hop_kernels.proofs.kernel.Kernel.next.Goals as goal

pub next-requires-clause-fits : goal.next-requires-clause-fits
next-requires-clause-fits c =
    let query = c.args.query.now in
    let stages = c.args.plan.now.stages in
    let stage = c.index-list-frame.result in
    let number = c.args.frame.now.stage in
    let there : slice_get stages number ≡ Some stage =
    slice_get-get_or stages number stage c.requires.stage ∙ ap Some (sym (c.index-list-frame.is ∙ ap (λ xs. get_or xs number stage) c.list.ensures)) in
    all-get (StageFits query) stages number stage (subst (λ plan. AllByRecursion (StageFits query) plan.stages) (sym c.requires.plan) (plan_fits query c.requires.well)) there

pub returns-clause-answer : goal.returns-clause-answer
returns-clause-answer c =
    let texts = c.args.texts.now in
    let query = c.args.query.now in
    let part = c.args.part.now in
    let frame = c.args.frame.now in
    let stages = c.args.plan.now.stages in
    let stage = c.index-list-frame.result in
    let there : slice_get stages frame.stage ≡ Some stage =
    slice_get-get_or stages frame.stage stage c.requires.stage ∙ ap Some (sym (c.index-list-frame.is ∙ ap (λ xs. get_or xs frame.stage stage) c.list.ensures)) in
    c.next.ensures.answer ∙ sym (ap (λ o. answer (taken (λ here s. ahead texts query here s frame.context.words frame.place) [] (Some part) o)) there)

pub returns-clause-changed : goal.returns-clause-changed
returns-clause-changed c =
    let texts = c.args.texts.now in
    let query = c.args.query.now in
    let part = c.args.part.now in
    let frame = c.args.frame.now in
    let stages = c.args.plan.now.stages in
    let stage = c.index-list-frame.result in
    let there : slice_get stages frame.stage ≡ Some stage =
    slice_get-get_or stages frame.stage stage c.requires.stage ∙ ap Some (sym (c.index-list-frame.is ∙ ap (λ xs. get_or xs frame.stage stage) c.list.ensures)) in
    ap₂ (λ ws p. record frame { context = record { words = ws }; place = p })
    (c.next.ensures.words ∙ sym (ap (λ o. taken (λ here s. words_after texts query here s frame.context.words frame.place) frame.context.words (Some part) o) there))
    (c.next.ensures.place ∙ sym (ap (λ o. taken (λ here s. place_after texts query here s frame.context.words frame.place) frame.place (Some part) o) there))
