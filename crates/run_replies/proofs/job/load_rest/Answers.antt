use Rattle.std.proofs.Common.{Ok}
use Rattle.run_replies.specs.Given.{job_seen}
use Rattle.run_replies.specs.Outcome.{job_of_owner, owner_of}
use Rattle.run_replies.specs.Reaching.{IsFile, OwnerReaches}
use Rattle.partition.specs.declared.owner.Owner.{Owner}
use Rattle.run_replies.proofs.Steps.{part_fails_told, part_goes_on_told, reads_after, reads_stopped}
use Rattle.run_replies.proofs.job.load_rest.Goals as goal

pub returns-in-Ok-clause-gives : goal.returns-in-Ok-clause-gives
returns-in-Ok-clause-gives g c =
    let header = c.args.header.now in
    part_goes_on_told job_seen (g.S.Store.files c.args.store.now) (g.S.Store.files c.load_owner.new.store)
    (λ told. owner_of header.part header.machines told c.args.graph.vertices) c.in-Ok.owner
    (λ told owner. job_of_owner told header c.args.graph owner) c.load_last.result c.in-Ok.ensures.reads.kept c.in-Ok.ensures.gives c.load_last.ensures.gives

pub returns-in-Ok-clause-reads : goal.returns-in-Ok-clause-reads
returns-in-Ok-clause-reads g c =
    let header = c.args.header.now in
    reads_after (OwnerReaches header.part) (λ told. owner_of header.part header.machines told c.args.graph.vertices) (λ owner. IsFile 257) c.in-Ok.owner _ _ _ (Ok c.in-Ok.owner) c.load_last.result
    c.in-Ok.ensures.gives c.in-Ok.ensures.reads c.load_last.ensures.reads

pub returns-in-Err-clause-gives : goal.returns-in-Err-clause-gives
returns-in-Err-clause-gives g c =
    let header = c.args.header.now in
    part_fails_told (λ (owner : Owner). owner) job_seen (g.S.Store.files c.args.store.now) c.in-Err.status (λ told. owner_of header.part header.machines told c.args.graph.vertices)
    (λ told owner. job_of_owner told header c.args.graph owner) c.in-Err.ensures.gives

pub returns-in-Err-clause-reads : goal.returns-in-Err-clause-reads
returns-in-Err-clause-reads g c =
    let header = c.args.header.now in
    reads_stopped (OwnerReaches header.part) (λ told. owner_of header.part header.machines told c.args.graph.vertices) (λ owner. IsFile 257) _ _ c.in-Err.status c.in-Err.ensures.reads
