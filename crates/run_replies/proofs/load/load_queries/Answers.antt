use Rattle.std.proofs.Common.{Ok, ℕ, Global, Vec}
use Rattle.adfs_base.specs.Files.{file_of}
use Rattle.run_replies.specs.Outcome.{file_bytes, queries_in}
use Rattle.run_replies.specs.Reaching.{IsFile}
use Rattle.run_replies.specs.declared.load.Queries.{Queries}
use Rattle.run_replies.proofs.Steps.{part_fails_told, part_then_told, reads_failed, reads_then}
use Rattle.run_replies.proofs.load.load_queries.Goals as goal

pub returns-in-Ok-clause-gives : goal.returns-in-Ok-clause-gives
returns-in-Ok-clause-gives g c =
    part_then_told (λ (queries : Queries). (queries.text.items, queries.places.items)) (g.S.Store.files c.args.store.now) (λ told. file_bytes 257 (file_of c.args.name.now told)) c.in-Ok.text.items
    queries_in c.queries_in.result c.in-Ok.ensures.gives c.queries_in.ensures.gives

pub returns-in-Ok-clause-reads : goal.returns-in-Ok-clause-reads
returns-in-Ok-clause-reads g c =
    reads_then (IsFile 257) (IsFile 257) _ _ (Ok c.in-Ok.text) c.queries_in.result c.in-Ok.ensures.reads c.queries_in.ensures.status

pub returns-in-Err-clause-gives : goal.returns-in-Err-clause-gives
returns-in-Err-clause-gives g c =
    part_fails_told (λ (v : Vec ℕ Global). v.items) (λ (queries : Queries). (queries.text.items, queries.places.items)) (g.S.Store.files c.args.store.now) c.in-Err.status (λ told. file_bytes 257 (file_of c.args.name.now told))
    (λ told. queries_in) c.in-Err.ensures.gives

pub returns-in-Err-clause-reads : goal.returns-in-Err-clause-reads
returns-in-Err-clause-reads g c = reads_failed (IsFile 257) (IsFile 257) _ _ c.in-Err.status (λ file at. at) c.in-Err.ensures.reads
