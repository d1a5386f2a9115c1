use Rattle.std.proofs.Common.{refl, subst, sym}
use Rattle.run_replies.specs.Firsts.{IsFirst}
use Rattle.run_replies.specs.Given.{job_seen}
use Rattle.run_replies.proofs.JobFacts.{values_of}
use Rattle.run_replies.proofs.Tracing.{first_by}
use Rattle.run_replies.proofs.first.read_first.Goals as goal

pub returns-in-Ok : goal.returns-in-Ok
returns-in-Ok c =
    let job = job_seen c.args.given in
    subst (IsFirst job job.places c.verdict_on.new.texts) (sym c.first_of.ensures)
    (first_by job c.detach-schema.result.0 c.detach-schema.new.self c.args.given.owner c.detach-schema.result.1 c.verdict_on.new.texts c.in-Ok.verdict c.detach-schema.ensures.schema c.detach-schema.ensures.texts c.detach-schema.ensures.rest refl
    (values_of c.args.given.graph c.requires.whole) c.in-Ok.ensures)
