use Rattle.std.proofs.Common.{◌≡◌, length, sym, ap, subst, ◌∙◌}
use Rattle.world_core.specs.Sound.{Sound}
use Rattle.world_core.specs.World.{World, world_of, Fits, start_world}
use Rattle.world_core.proofs.Starts.{start-sound, start-fits, new-is}
use Rattle.world_core.proofs.world.World.new.Given as given
use Rattle.world_core.proofs.world.World.new.Goals as goal

pub new-requires : goal.new-requires
new-requires g c = ap length c.deref.ensures.value ∙ c.in_ok-roots.ensures.count ∙ sym c.requires.machines

made : (g : given.Over) (c : goal.In_ok-workers g) → world_of c.in_ok-workers.workers.items c.in_ok-fabric.fabric ≡ start_world c.args.shape.now (g.X.Expand.tree c.args.x.now)
made g c =
    new-is c.args.shape.now (g.X.Expand.tree c.args.x.now) c.deref.result.now c.in_ok-roots.roots.items c.in_ok-workers.workers.items c.in_ok-fabric.fabric
    c.in_ok-workers.ensures.fresh c.in_ok-fabric.ensures c.deref.ensures.value c.in_ok-roots.ensures.roots c.requires.machines

pub invariant_of-result : goal.invariant_of-result
invariant_of-result g c = subst Sound (sym (made g c)) (start-sound c.args.shape.now (g.X.Expand.tree c.args.x.now) c.in_ok-workers.ensures.sound)

begun : (g : given.Over) (c : goal.After-drop-roots-2 g) → world_of c.in_ok-workers.workers.items c.in_ok-fabric.fabric ≡ start_world c.args.shape.now (g.X.Expand.tree c.args.x.now)
begun g c =
    new-is c.args.shape.now (g.X.Expand.tree c.args.x.now) c.deref.result.now c.in_ok-roots.roots.items c.in_ok-workers.workers.items c.in_ok-fabric.fabric
    c.in_ok-workers.ensures.fresh c.in_ok-fabric.ensures c.deref.ensures.value c.in_ok-roots.ensures.roots c.requires.machines

pub returns-clause-start : goal.returns-clause-start
returns-clause-start g c = begun g c

pub returns-clause-fits : goal.returns-clause-fits
returns-clause-fits g c =
    subst (λ (w : World). Fits (g.X.Expand.tree c.args.x.now) w.shared) (sym (begun g c))
    (start-fits c.args.shape.now (g.X.Expand.tree c.args.x.now) c.requires.stages c.requires.machines)
