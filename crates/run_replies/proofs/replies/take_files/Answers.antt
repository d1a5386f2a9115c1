use Rattle.std.proofs.Common.{Ok}
use Rattle.run_replies.specs.Given.{job_seen}
use Rattle.run_replies.specs.Outcome.{Taken, job_of}
use Rattle.run_replies.specs.Reaching.{JobReaches}
use Rattle.run_replies.proofs.Replays.{told_bytes, told_gives}
use Rattle.run_replies.proofs.Steps.{reads_failed, reads_then, replies_fail_told, work_given}
use Rattle.run_replies.proofs.replies.take_files.Goals as goal

pub returns-in-Ok-clause-gives : goal.returns-in-Ok-clause-gives
returns-in-Ok-clause-gives g c =
    let header = c.args.header.now in
    let bytes = c.args.events.bytes.now in
    work_given (g.S.Store.files c.args.store.now) (λ told. job_of told header) (job_seen c.in-Ok.given) (λ job. Taken header bytes job) c.or_refused.result c.in-Ok.ensures.gives
    (rw c.or_refused.ensures (told_gives header bytes (job_seen c.in-Ok.given) c.take_given.result c.take_given.ensures))

pub returns-in-Ok-clause-reads : goal.returns-in-Ok-clause-reads
returns-in-Ok-clause-reads g c =
    let header = c.args.header.now in
    reads_then (JobReaches header) (JobReaches header) _ _ (Ok c.in-Ok.given) c.or_refused.result c.in-Ok.ensures.reads (rw c.or_refused.ensures (told_bytes c.take_given.result))

pub returns-in-Err-clause-gives : goal.returns-in-Err-clause-gives
returns-in-Err-clause-gives g c =
    let header = c.args.header.now in
    replies_fail_told job_seen (g.S.Store.files c.args.store.now) c.in-Err.status (λ told. job_of told header) (λ told job. Ok (Taken header c.args.events.bytes.now job)) c.in-Err.ensures.gives

pub returns-in-Err-clause-reads : goal.returns-in-Err-clause-reads
returns-in-Err-clause-reads g c =
    let header = c.args.header.now in
    reads_failed (JobReaches header) (JobReaches header) _ _ c.in-Err.status (λ file at. at) c.in-Err.ensures.reads
