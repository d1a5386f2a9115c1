use Rattle.run_replies.specs.Given.{job_seen}
use Rattle.run_replies.specs.Traces.{IsToldOf}
use Rattle.run_replies.proofs.Tracing.{alone_by, asked_of_first, none_put, owned_by}
use Rattle.run_replies.proofs.traces.take_given.Goals as goal

pub take_query-requires-clause-owned : goal.take_query-requires-clause-owned
take_query-requires-clause-owned c =
    let job = job_seen c.args.given in
    owned_by c.args.header.now job c.in_ok-first.texts c.in-Asked.asking (asked_of_first job job.places c.in_ok-first.texts c.in-Asked.asking (rw c.in-Asked.is at c.in_ok-first.ensures)) c.requires.given.owned

pub take_query-requires-clause-asked : goal.take_query-requires-clause-asked
take_query-requires-clause-asked c =
    let job = job_seen c.args.given in
    let found = asked_of_first job job.places c.in_ok-first.texts c.in-Asked.asking (rw c.in-Asked.is at c.in_ok-first.ensures) in
    record { job = job; place = found.0; is = found.1 }

pub returns-in-Absent : goal.returns-in-Absent
returns-in-Absent c =
    let job = job_seen c.args.given in
    none_put job (IsToldOf c.args.header.now c.args.events.bytes.now job) c.in_ok-first.texts job.places _ _ (rw c.in-Absent.is at c.in_ok-first.ensures) c.no_texts.ensures.texts c.no_texts.ensures.refused

pub returns : goal.returns
returns c =
    let job = job_seen c.args.given in
    alone_by c.args.header.now c.args.events.bytes.now job c.in_ok-first.texts c.in-Asked.asking c.take_query.result c.told_alone.result (rw c.in-Asked.is at c.in_ok-first.ensures)
    (λ place asking. c.take_query.ensures job place asking) c.told_alone.ensures
