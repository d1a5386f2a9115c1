use Rattle.std.proofs.Common.{◌<◌, length, sym, ap, subst, ◌∙◌, Some}
use Rattle.std.proofs.lemmas.Option.{slice_get-get_or}
use Rattle.world_core.specs.World.{World}
use Rattle.world_core.proofs.world.World.worker.Goals as goal

pub returns-clause-worker : goal.returns-clause-worker
returns-clause-worker c =
    let workers = c.self.inside.workers.items in
    let low = subst (λ (w : World). c.args.w < length w.workers) (sym c.self.view_is) c.requires in
    c.self.invariant.own c.args.w c.index.result.now (slice_get-get_or workers c.args.w c.index.result.now low ∙ ap Some (sym c.index.ensures))
