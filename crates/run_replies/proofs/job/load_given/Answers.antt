use Rattle.std.proofs.Common.{Ok}
use Rattle.graph_loading.specs.Loaded.{loaded}
use Rattle.run_status.specs.Faults.{with_status}
use Rattle.run_replies.specs.Given.{job_seen}
use Rattle.run_replies.specs.Outcome.{job_of_graph}
use Rattle.run_replies.specs.Reaching.{GraphReaches, RestReaches}
use Rattle.graph_tables.specs.Graph.{PropertyGraph}
use Rattle.run_replies.proofs.Steps.{part_fails_told, part_goes_on_told, reads_after, reads_stopped}
use Rattle.run_replies.proofs.job.load_given.Goals as goal

pub returns-in-Ok-clause-gives : goal.returns-in-Ok-clause-gives
returns-in-Ok-clause-gives g c =
    let header = c.args.header.now in
    part_goes_on_told job_seen (g.S.Store.files c.args.store.now) (g.S.Store.files c.load_tables.new.store)
    (λ told. with_status (loaded told header.manifest)) c.in-Ok.graph (λ told graph. job_of_graph told header graph) c.load_rest.result
    c.in-Ok.ensures.reads.kept (rw c.text.ensures at c.in-Ok.ensures.gives) c.load_rest.ensures.gives

pub returns-in-Ok-clause-reads : goal.returns-in-Ok-clause-reads
returns-in-Ok-clause-reads g c =
    let header = c.args.header.now in
    reads_after (GraphReaches header.manifest) (λ told. with_status (loaded told header.manifest)) (RestReaches header) c.in-Ok.graph _ _ _ (Ok c.in-Ok.graph) c.load_rest.result
    (rw c.text.ensures at c.in-Ok.ensures.gives) (rw c.text.ensures at c.in-Ok.ensures.reads) c.load_rest.ensures.reads

pub returns-in-Err-clause-gives : goal.returns-in-Err-clause-gives
returns-in-Err-clause-gives g c =
    let header = c.args.header.now in
    part_fails_told (λ (found : PropertyGraph). found) job_seen (g.S.Store.files c.args.store.now) c.in-Err.status (λ told. with_status (loaded told header.manifest))
    (λ told graph. job_of_graph told header graph) (rw c.text.ensures at c.in-Err.ensures.gives)

pub returns-in-Err-clause-reads : goal.returns-in-Err-clause-reads
returns-in-Err-clause-reads g c =
    let header = c.args.header.now in
    reads_stopped (GraphReaches header.manifest) (λ told. with_status (loaded told header.manifest)) (RestReaches header) _ _ c.in-Err.status (rw c.text.ensures at c.in-Err.ensures.reads)
