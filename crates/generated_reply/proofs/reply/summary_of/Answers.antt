use Rattle.std.proofs.Common.{◌≡◌, ◌++◌, [], rules, subst}
use Rattle.generated_reply.specs.Summary.{Brief, made_text}
use Rattle.generated_reply.proofs.Briefly.{summary_by}
use Rattle.generated_reply.proofs.reply.summary_of.Goals as goal

pub returns-in-Ok : goal.returns-in-Ok
returns-in-Ok c =
    let none : c.new-out.result.items ≡ [] = search rules in
    summary_by c.args.graph c.args.vertices c.args.edges c.put_summary.new.out.items c.in-Ok.refused c.one_text.result
    (subst (λ before. Brief c.args.graph (before ++ made_text c.args.vertices c.args.edges) c.put_summary.new.out.items c.in-Ok.refused) none c.in-Ok.ensures) c.one_text.ensures
