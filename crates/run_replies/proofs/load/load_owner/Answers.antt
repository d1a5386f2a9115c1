use Rattle.std.proofs.Common.{arith, refl}
use Rattle.run_replies.specs.Reaching.{IsFile, OwnerReaches}
use Rattle.run_replies.proofs.Steps.{reads_among, reads_ok}
use Rattle.run_replies.proofs.load.load_owner.Goals as goal

pub returns-in-Modulo-clause-reads : goal.returns-in-Modulo-clause-reads
returns-in-Modulo-clause-reads g c = reads_ok (OwnerReaches c.args.header.now.part) _ _ _ refl (omega arith) (omega arith)

pub returns-in-Block-clause-reads : goal.returns-in-Block-clause-reads
returns-in-Block-clause-reads g c = reads_ok (OwnerReaches c.args.header.now.part) _ _ _ refl (omega arith) (omega arith)

pub returns-in-Listed-clause-reads : goal.returns-in-Listed-clause-reads
returns-in-Listed-clause-reads g c =
    reads_among (OwnerReaches c.args.header.now.part) (IsFile 259) _ _ c.load_listed.result (λ file is. (is, rw c.in-Listed.is tt)) c.load_listed.ensures.reads
