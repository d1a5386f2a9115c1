use Rattle.std.proofs.Common.{Ok, ℕ, Global, Vec}
use Rattle.adfs_base.specs.Files.{file_of}
use Rattle.partition.specs.OwnerFile.{owners_of}
use Rattle.run_status.specs.Faults.{with_owner_status}
use Rattle.run_replies.specs.Outcome.{file_bytes}
use Rattle.run_replies.specs.Reaching.{IsFile}
use Rattle.partition.specs.declared.owner.Owner.{Owner}
use Rattle.run_replies.proofs.Steps.{part_fails_told, part_then_told, reads_failed, reads_then}
use Rattle.run_replies.proofs.load.load_listed.Goals as goal

pub returns-in-Ok-clause-gives : goal.returns-in-Ok-clause-gives
returns-in-Ok-clause-gives g c =
    part_then_told (λ (owner : Owner). owner) (g.S.Store.files c.args.store.now) (λ told. file_bytes 259 (file_of c.args.name.now told)) c.in-Ok.bytes.items
    (λ bytes. with_owner_status (owners_of bytes c.args.graph.now.vertices c.args.machines)) c.owner_in.result c.in-Ok.ensures.gives (rw c.deref.ensures.value at c.owner_in.ensures.gives)

pub returns-in-Ok-clause-reads : goal.returns-in-Ok-clause-reads
returns-in-Ok-clause-reads g c =
    reads_then (IsFile 259) (IsFile 259) _ _ (Ok c.in-Ok.bytes) c.owner_in.result c.in-Ok.ensures.reads c.owner_in.ensures.status

pub returns-in-Err-clause-gives : goal.returns-in-Err-clause-gives
returns-in-Err-clause-gives g c =
    part_fails_told (λ (v : Vec ℕ Global). v.items) (λ (owner : Owner). owner) (g.S.Store.files c.args.store.now) c.in-Err.status (λ told. file_bytes 259 (file_of c.args.name.now told))
    (λ told bytes. with_owner_status (owners_of bytes c.args.graph.now.vertices c.args.machines)) c.in-Err.ensures.gives

pub returns-in-Err-clause-reads : goal.returns-in-Err-clause-reads
returns-in-Err-clause-reads g c = reads_failed (IsFile 259) (IsFile 259) _ _ c.in-Err.status (λ file at. at) c.in-Err.ensures.reads
