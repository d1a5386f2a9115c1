use Rattle.std.proofs.Common.{◌≡◌, ◌<◌, ◌≤◌, inl, inr, ap, subst, sym, ◌∙◌, arith, None}
use Rattle.std.proofs.lemmas.Bool.{cases_lt}
use Rattle.dfs_worker.specs.declared.event.Event.TheVariants as event
use Rattle.world_core.specs.Step.{guard_of}
use Rattle.world_core.proofs.Travels.{shape-of}
use Rattle.world_progress.proofs.Tries.{marks-fail, none-of}
use Rattle.world_progress.proofs.attempts.mark_event.Goals as goal

pub loop-a-preserved : goal.loop-a-preserved
loop-a-preserved c = λ a b low here enabled. elim (cases_lt a c.loop-a.a) [
  | inl before ↦ c.loop-a.invariant a b before here enabled
  | inr late ↦ (let same : a ≡ c.loop-a.a = omega arith in
      none-of _ c.mark_of-event.result c.is_some.result c.is_some.ensures c.if-is_some.false c.mark_of-event.ensures.none b here
      (subst (λ x. guard_of c.args.world.now (event.Mark c.args.w x b) ≡ None) same enabled))
]

pub returns-clause-none : goal.returns-clause-none
returns-clause-none c =
    let shape = ap (λ x. x.machines) (shape-of c.args.world.now c.args.w c.worker.result.now c.worker.ensures.sound c.worker.ensures.at) in
    marks-fail c.args.world.now c.args.w c.machines-a-end.result c.worker.ensures.sound (c.machines-a-end.ensures ∙ shape)
    (λ a b low here. let end = c.loop-a-test.false in c.loop-a.invariant a b (omega arith) here)
