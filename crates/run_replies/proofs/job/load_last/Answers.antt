use Rattle.std.proofs.Common.{Ok, refl}
use Rattle.run_replies.specs.Given.{job_seen}
use Rattle.run_replies.specs.Outcome.{job_with, queries_of}
use Rattle.run_replies.specs.Reaching.{IsFile}
use Rattle.run_replies.specs.declared.load.Queries.{Queries}
use Rattle.run_replies.proofs.Steps.{part_fails_told, part_then_told, reads_failed, reads_then}
use Rattle.run_replies.proofs.job.load_last.Goals as goal

pub returns-in-Ok-clause-gives : goal.returns-in-Ok-clause-gives
returns-in-Ok-clause-gives g c =
    let queries = c.in-Ok.queries in
    part_then_told job_seen (g.S.Store.files c.args.store.now) (λ told. queries_of told c.args.header.now.queries) (queries.text.items, queries.places.items)
    (λ queries. Ok (job_with c.args.graph c.args.owner queries)) (Ok (record { graph = c.args.graph; owner = c.args.owner; queries = queries }))
    (rw c.text.ensures at c.in-Ok.ensures.gives) refl

pub returns-in-Ok-clause-reads : goal.returns-in-Ok-clause-reads
returns-in-Ok-clause-reads g c = reads_then (IsFile 257) (IsFile 257) _ _ (Ok c.in-Ok.queries) (Ok _) c.in-Ok.ensures.reads tt

pub returns-in-Err-clause-gives : goal.returns-in-Err-clause-gives
returns-in-Err-clause-gives g c =
    part_fails_told (λ (queries : Queries). (queries.text.items, queries.places.items)) job_seen (g.S.Store.files c.args.store.now) c.in-Err.status (λ told. queries_of told c.args.header.now.queries)
    (λ told queries. Ok (job_with c.args.graph c.args.owner queries)) (rw c.text.ensures at c.in-Err.ensures.gives)

pub returns-in-Err-clause-reads : goal.returns-in-Err-clause-reads
returns-in-Err-clause-reads g c = reads_failed (IsFile 257) (IsFile 257) _ _ c.in-Err.status (λ file at. at) c.in-Err.ensures.reads
