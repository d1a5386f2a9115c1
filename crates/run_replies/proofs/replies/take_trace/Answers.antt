use Rattle.std.proofs.Common.{Ok, ℕ, Global, Vec}
use Rattle.adfs_base.specs.Files.{file_of}
use Rattle.run_replies.specs.Outcome.{file_bytes, work_of_trace}
use Rattle.run_replies.specs.Reaching.{HeaderReaches, IsFile}
use Rattle.run_replies.proofs.Steps.{reads_after, reads_stopped, replies_fail_told, replies_go_on_told}
use Rattle.run_replies.proofs.replies.take_trace.Goals as goal

pub returns-in-Ok-clause-gives : goal.returns-in-Ok-clause-gives
returns-in-Ok-clause-gives g c =
    replies_go_on_told (g.S.Store.files c.args.store.now) (g.S.Store.files c.load_file.new.store) (λ told. file_bytes 258 (file_of c.args.name.now told)) c.in-Ok.bytes.items
    (λ told bytes. work_of_trace told bytes) c.take_bytes.result c.in-Ok.ensures.reads.kept c.in-Ok.ensures.gives (rw c.deref.ensures.value at c.take_bytes.ensures.gives)

pub returns-in-Ok-clause-reads : goal.returns-in-Ok-clause-reads
returns-in-Ok-clause-reads g c =
    reads_after (IsFile 258) (λ told. file_bytes 258 (file_of c.args.name.now told)) HeaderReaches c.in-Ok.bytes.items _ _ _ (Ok c.in-Ok.bytes) c.take_bytes.result
    c.in-Ok.ensures.gives c.in-Ok.ensures.reads (rw c.deref.ensures.value at c.take_bytes.ensures.reads)

pub returns-in-Err-clause-gives : goal.returns-in-Err-clause-gives
returns-in-Err-clause-gives g c =
    replies_fail_told (λ (v : Vec ℕ Global). v.items) (g.S.Store.files c.args.store.now) c.in-Err.status (λ told. file_bytes 258 (file_of c.args.name.now told)) (λ told bytes. work_of_trace told bytes) c.in-Err.ensures.gives

pub returns-in-Err-clause-reads : goal.returns-in-Err-clause-reads
returns-in-Err-clause-reads g c = reads_stopped (IsFile 258) (λ told. file_bytes 258 (file_of c.args.name.now told)) HeaderReaches _ _ c.in-Err.status c.in-Err.ensures.reads
