use Rattle.run_replies.specs.Reaching.{GraphReaches}
use Rattle.run_replies.proofs.Places.{reads_fault}
use Rattle.run_replies.proofs.Steps.{reads_ok}
use Rattle.run_replies.proofs.load.load_tables.Goals as goal

pub returns-in-Ok-clause-reads : goal.returns-in-Ok-clause-reads
returns-in-Ok-clause-reads g c = reads_ok (GraphReaches c.args.manifest.now) _ _ c.in-Ok.graph c.in-Ok.ensures.kept c.in-Ok.ensures.cause.faults_stay c.in-Ok.ensures.cause.misses_stay

pub returns-in-Err-clause-reads : goal.returns-in-Err-clause-reads
returns-in-Err-clause-reads g c =
    reads_fault c.args.manifest.now c.in-Err.fault c.status_of.result _ _ c.status_of.ensures c.in-Err.ensures.kept c.in-Err.ensures.cause c.in-Err.ensures.place
    c.in-Err.ensures.lacking c.in-Err.ensures.reached c.in-Err.ensures.gives
