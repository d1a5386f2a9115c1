use Rattle.std.proofs.Common.{ap, Err}
use Rattle.std.specs.Str.Lines.{lines}
use Rattle.run_status.specs.Faults.{with_replay_status}
use Rattle.trace_text.specs.Headers.{header_of}
use Rattle.run_replies.specs.Outcome.{work_of_header}
use Rattle.run_replies.specs.Reaching.{HeaderReaches, JobReaches}
use Rattle.run_replies.proofs.Limits.{limits_of}
use Rattle.run_replies.proofs.Replays.{fault_bytes, header_fails_told}
use Rattle.run_replies.proofs.Steps.{reads_among, reads_nothing, words_go_on_told}
use Rattle.run_replies.proofs.replies.take_bytes.Goals as goal

pub take_files-requires-clause-limits : goal.take_files-requires-clause-limits
take_files-requires-clause-limits g c = limits_of c.in-Ok.header c.in-Ok.ensures.limits

pub returns-in-Ok-clause-gives : goal.returns-in-Ok-clause-gives
returns-in-Ok-clause-gives g c =
    let bytes = c.args.bytes.now in
    words_go_on_told (g.S.Store.files c.args.store.now) (with_replay_status (header_of (lines bytes))) c.in-Ok.header (λ told header. work_of_header told bytes header) c.take_files.result
    (ap with_replay_status c.in-Ok.ensures.exact) c.take_files.ensures.gives

pub returns-in-Ok-clause-reads : goal.returns-in-Ok-clause-reads
returns-in-Ok-clause-reads g c =
    let header = c.in-Ok.header in
    reads_among (HeaderReaches c.args.bytes.now) (JobReaches header) _ _ c.take_files.result (λ file at. (header, c.in-Ok.ensures.exact, at)) c.take_files.ensures.reads

pub returns-in-Err-clause-gives : goal.returns-in-Err-clause-gives
returns-in-Err-clause-gives g c =
    let bytes = c.args.bytes.now in
    rw c.status_of_replay.ensures
    (header_fails_told (g.S.Store.files c.args.store.now) c.in-Err.fault (header_of (lines bytes)) (λ told header. work_of_header told bytes header) c.in-Err.ensures.exact)

pub returns-in-Err-clause-reads : goal.returns-in-Err-clause-reads
returns-in-Err-clause-reads g c = reads_nothing (HeaderReaches c.args.bytes.now) _ (Err c.status_of_replay.result) (rw c.status_of_replay.ensures (fault_bytes c.in-Err.fault))
