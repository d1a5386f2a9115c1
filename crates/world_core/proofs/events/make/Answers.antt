use Rattle.world_core.proofs.Bodies.{advance-roots}
use Rattle.world_core.proofs.events.make.Goals as goal

pub advance-requires-clause-roots : goal.advance-requires-clause-roots
advance-requires-clause-roots g c = advance-roots _ c.args.fabric.now c.args.worker.now c.requires.may.part c.requires.fits
