use Rattle.std.proofs.Common.{◌≡◌, ◌||◌, drop}
use Rattle.std.specs.List.{list_all}
use Rattle.plan_tree.specs.Answers.{is_of}
use Rattle.plan_tree.specs.Told.{is_told_at}
use Rattle.hop_kernels.proofs.hops.others_told.Given as goal

abbrev pub invariant-loop-place : goal.invariant-loop-place
invariant-loop-place l =
    list_all (λ place. is_of l.ground.query.now l.edge place || is_told_at l.ground.texts.now l.ground.query.now l.context.words place) (drop l.place-index l.place-items)
    ≡ list_all (λ place. is_of l.ground.query.now l.edge place || is_told_at l.ground.texts.now l.ground.query.now l.context.words place) l.place-items
