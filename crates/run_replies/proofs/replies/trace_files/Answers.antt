use Rattle.std.proofs.Common.{Ok}
use Rattle.cli_words.specs.declared.command.Command.TheVariants as command
use Rattle.run_replies.specs.Given.{job_seen}
use Rattle.run_replies.specs.Outcome.{job_of, work_on}
use Rattle.run_replies.specs.Reaching.{JobReaches}
use Rattle.run_replies.proofs.Steps.{made, memory_bytes, reads_failed, reads_then, replies_fail_told, work_given}
use Rattle.run_replies.proofs.replies.trace_files.Goals as goal

pub returns-in-Ok-clause-gives : goal.returns-in-Ok-clause-gives
returns-in-Ok-clause-gives g c =
    let header = c.args.header.now in
    work_given (g.S.Store.files c.args.store.now) (λ told. job_of told header) (job_seen c.in-Ok.given) (work_on command.Trace header) c.or_memory.result c.in-Ok.ensures.gives
    (rw c.or_memory.ensures (made (work_on command.Trace header (job_seen c.in-Ok.given)) c.trace_given.result c.trace_given.ensures))

pub returns-in-Ok-clause-reads : goal.returns-in-Ok-clause-reads
returns-in-Ok-clause-reads g c =
    let header = c.args.header.now in
    reads_then (JobReaches header) (JobReaches header) _ _ (Ok c.in-Ok.given) c.or_memory.result c.in-Ok.ensures.reads (rw c.or_memory.ensures (memory_bytes c.trace_given.result))

pub returns-in-Err-clause-gives : goal.returns-in-Err-clause-gives
returns-in-Err-clause-gives g c =
    let header = c.args.header.now in
    replies_fail_told job_seen (g.S.Store.files c.args.store.now) c.in-Err.status (λ told. job_of told header) (λ told job. Ok (work_on command.Trace header job)) c.in-Err.ensures.gives

pub returns-in-Err-clause-reads : goal.returns-in-Err-clause-reads
returns-in-Err-clause-reads g c =
    let header = c.args.header.now in
    reads_failed (JobReaches header) (JobReaches header) _ _ c.in-Err.status (λ file at. at) c.in-Err.ensures.reads
