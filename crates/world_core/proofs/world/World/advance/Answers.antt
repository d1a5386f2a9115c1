use Rattle.world_core.specs.World.{world_of}
use Rattle.world_core.proofs.Advancing.{inside-reads, inside-made, inside-sound}
use Rattle.world_core.proofs.world.World.advance.Goals as goal

pub advance_on-requires-clause-worker : goal.advance_on-requires-clause-worker
advance_on-requires-clause-worker g c =
    (inside-reads (g.X.Expand.tree c.args.x.now) c.args.self.now (world_of c.self.inside.workers.items c.self.inside.fabric) c.args.w c.index_mut.result.now c.self.view_is
    (g.met.X.Expand.lawful c.args.x.now) c.requires.fits c.self.invariant c.requires.enabled c.index_mut.ensures.value).worker

pub advance_on-requires-clause-enabled : goal.advance_on-requires-clause-enabled
advance_on-requires-clause-enabled g c =
    (inside-reads (g.X.Expand.tree c.args.x.now) c.args.self.now (world_of c.self.inside.workers.items c.self.inside.fabric) c.args.w c.index_mut.result.now c.self.view_is
    (g.met.X.Expand.lawful c.args.x.now) c.requires.fits c.self.invariant c.requires.enabled c.index_mut.ensures.value).own

pub advance_on-requires-clause-stages : goal.advance_on-requires-clause-stages
advance_on-requires-clause-stages g c =
    (inside-reads (g.X.Expand.tree c.args.x.now) c.args.self.now (world_of c.self.inside.workers.items c.self.inside.fabric) c.args.w c.index_mut.result.now c.self.view_is
    (g.met.X.Expand.lawful c.args.x.now) c.requires.fits c.self.invariant c.requires.enabled c.index_mut.ensures.value).stages

pub advance_on-requires-clause-machines : goal.advance_on-requires-clause-machines
advance_on-requires-clause-machines g c =
    (inside-reads (g.X.Expand.tree c.args.x.now) c.args.self.now (world_of c.self.inside.workers.items c.self.inside.fabric) c.args.w c.index_mut.result.now c.self.view_is
    (g.met.X.Expand.lawful c.args.x.now) c.requires.fits c.self.invariant c.requires.enabled c.index_mut.ensures.value).machines

pub advance_on-requires-clause-roots : goal.advance_on-requires-clause-roots
advance_on-requires-clause-roots g c =
    (inside-reads (g.X.Expand.tree c.args.x.now) c.args.self.now (world_of c.self.inside.workers.items c.self.inside.fabric) c.args.w c.index_mut.result.now c.self.view_is
    (g.met.X.Expand.lawful c.args.x.now) c.requires.fits c.self.invariant c.requires.enabled c.index_mut.ensures.value).roots

pub invariant_of-self : goal.invariant_of-self
invariant_of-self g c =
    inside-sound (g.X.Expand.tree c.args.x.now) c.args.self.now (world_of c.self.inside.workers.items c.self.inside.fabric) c.args.w c.index_mut.result.now c.advance_on.new.self c.advance_on.result c.self.view_is
    (g.met.X.Expand.lawful c.args.x.now) c.requires.fits c.self.invariant c.requires.enabled c.index_mut.ensures.value
    c.advance_on.ensures.ok c.advance_on.ensures.err

pub returns-clause-made : goal.returns-clause-made
returns-clause-made g c =
    inside-made (g.X.Expand.tree c.args.x.now) c.args.self.now (world_of c.self.inside.workers.items c.self.inside.fabric) c.args.w c.index_mut.result.now c.advance_on.new.self c.advance_on.result c.self.view_is
    (g.met.X.Expand.lawful c.args.x.now) c.requires.fits c.self.invariant c.requires.enabled c.index_mut.ensures.value
    c.advance_on.ensures.ok
