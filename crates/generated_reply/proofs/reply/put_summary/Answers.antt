use Rattle.std.proofs.Common.{IfOk, subst}
use Rattle.generated_reply.specs.Summary.{Brief}
use Rattle.generated_reply.proofs.reply.put_summary.Goals as goal

pub returns-in-Ok : goal.returns-in-Ok
returns-in-Ok c = subst (λ made. IfOk c.put_reply.result (Brief c.args.graph made c.put_reply.new.out.items)) c.in-Ok.ensures c.put_reply.ensures
