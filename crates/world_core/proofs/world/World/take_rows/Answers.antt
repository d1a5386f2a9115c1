use Rattle.std.proofs.Common.{◌≡◌, ◌<◌, length, ap, sym, subst, ◌∙◌}
use Rattle.std.specs.Prelude.{slice_set}
use Rattle.dfs_worker.specs.State.{State}
use Rattle.world_core.specs.Rows.{rows_at, without_rows_at}
use Rattle.world_core.specs.World.{World, world_of}
use Rattle.world_core.proofs.Rowless.{given-is, given-sound, rows-read}
use Rattle.world_core.proofs.world.World.take_rows.Goals as goal

pub invariant_of-self : goal.invariant_of-self
invariant_of-self c =
    let low = subst (λ (w : World). c.args.w < length w.workers) (sym c.self.view_is) c.requires in
    let v = c.index_mut.result.now in
    given-sound c.self.inside.workers.items c.args.w v v c.take_rows.new.self c.self.inside.fabric c.self.invariant low c.index_mut.ensures.value c.take_rows.ensures.none

pub returns-clause-rows : goal.returns-clause-rows
returns-clause-rows c =
    let low = subst (λ (w : World). c.args.w < length w.workers) (sym c.self.view_is) c.requires in
    let v = c.index_mut.result.now in
    subst (λ (w : World). c.take_rows.result.items ≡ rows_at w.workers c.args.w) c.self.view_is
    (c.take_rows.ensures.rows ∙ ap (λ (u : State). u.rows) c.index_mut.ensures.value ∙ sym (rows-read c.self.inside.workers.items c.args.w v low))

pub returns-clause-left : goal.returns-clause-left
returns-clause-left c =
    let low = subst (λ (w : World). c.args.w < length w.workers) (sym c.self.view_is) c.requires in
    let v = c.index_mut.result.now in
    let new = world_of (slice_set c.self.inside.workers.items c.args.w c.take_rows.new.self) c.self.inside.fabric in
    subst (λ (w : World). new ≡ world_of (without_rows_at w.workers c.args.w) w.shared) c.self.view_is
    (ap (λ ws. world_of ws c.self.inside.fabric) (given-is c.self.inside.workers.items c.args.w v v c.take_rows.new.self low c.index_mut.ensures.value c.take_rows.ensures.none))
