use Rattle.std.proofs.Common.{◌≡◌, ◌<◌, length, get_or, Some, ap, sym, ◌∙◌, arith, inl, inr}
use Rattle.std.specs.Prelude.{slice_get}
use Rattle.std.proofs.lemmas.Bool.{cases_lt}
use Rattle.std.proofs.lemmas.List.{get_or_read}
use Rattle.std.proofs.lemmas.Option.{slice_get-get_or}
use Rattle.hop_kernels.specs.PlanTrees.{over_of}
use Rattle.hop_kernels.proofs.Seeks.{passes-first, passes-later}
use Rattle.hop_kernels.proofs.tree.PlanTreeExpand.seek.Goals as goal

pub returns : goal.returns
returns c =
    let over = over_of c.args.self.now in
    let frame = c.args.frame.now in
    let part = c.index.result.now in
    let stage = c.index-list-frame.result in
    let read = get_or_read over.parts c.args.machine _ c.requires.machine_in c.index.ensures part in
    let part_there : slice_get over.parts c.args.machine ≡ Some part = slice_get-get_or over.parts c.args.machine part c.requires.machine_in ∙ ap Some (sym read) in
    let low : frame.stage < length over.plan.stages = omega (arith, c.requires.stage_in) in
    let stage_there : slice_get over.plan.stages frame.stage ≡ Some stage =
    slice_get-get_or over.plan.stages frame.stage stage low ∙ ap Some (sym (c.index-list-frame.is ∙ ap (λ xs. get_or xs frame.stage stage) c.list.ensures)) in
    elim (cases_lt 0 frame.place) [
      | inl later ↦ passes-later over c.args.machine part stage part_there c.seek.result.0 frame c.seek.result.1 c.seek.new.frame stage_there later (c.seek.ensures.later later)
      | inr most ↦ passes-first over c.args.machine part stage part_there frame c.seek.result.0 c.seek.result.1 c.seek.new.frame stage_there (omega (arith, most)) (c.seek.ensures.first (omega (arith, most)))
    ]
