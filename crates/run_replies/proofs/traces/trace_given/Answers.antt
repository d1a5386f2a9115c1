use Rattle.std.proofs.Common.{false, true}
use Rattle.run_replies.specs.Given.{job_seen}
use Rattle.run_replies.specs.Traces.{IsTraceOf}
use Rattle.run_replies.proofs.Tracing.{asked_of_first, due_put, line_put, none_put, owned_by, put_alone}
use Rattle.run_replies.proofs.traces.trace_given.Goals as goal

pub trace_query-requires-clause-owned : goal.trace_query-requires-clause-owned
trace_query-requires-clause-owned c =
    let job = job_seen c.args.given in
    owned_by c.args.header.now job c.in_ok-first.texts c.in-Asked.asking (asked_of_first job job.places c.in_ok-first.texts c.in-Asked.asking (rw c.in-Asked.is at c.in_ok-first.ensures)) c.requires.given.owned

pub trace_query-requires-clause-asked : goal.trace_query-requires-clause-asked
trace_query-requires-clause-asked c =
    let job = job_seen c.args.given in
    let found = asked_of_first job job.places c.in_ok-first.texts c.in-Asked.asking (rw c.in-Asked.is at c.in_ok-first.ensures) in
    record { job = job; place = found.0; is = found.1 }

pub returns-in-Absent : goal.returns-in-Absent
returns-in-Absent c =
    let job = job_seen c.args.given in
    none_put job (IsTraceOf c.args.header.now job) c.in_ok-first.texts job.places _ _ (rw c.in-Absent.is at c.in_ok-first.ensures) c.no_texts.ensures.texts c.no_texts.ensures.refused

pub returns-in-Refused : goal.returns-in-Refused
returns-in-Refused c =
    let job = job_seen c.args.given in
    put_alone job (IsTraceOf c.args.header.now job) job.places c.in-Refused.line.items true c.one_text.result
    (λ replies refused are is. line_put job (IsTraceOf c.args.header.now job) c.in_ok-first.texts job.places c.in-Refused.line replies refused (rw c.in-Refused.is at c.in_ok-first.ensures) are is)
    c.one_text.ensures.texts c.one_text.ensures.refused

pub returns : goal.returns
returns c =
    let job = job_seen c.args.given in
    put_alone job (IsTraceOf c.args.header.now job) job.places c.in_ok-trace-in-Asked.trace.items false c.one_text-in-Asked.result
    (λ replies refused are is. due_put job (IsTraceOf c.args.header.now job) c.in_ok-first.texts job.places c.in-Asked.asking c.in_ok-trace-in-Asked.trace.items replies refused (rw c.in-Asked.is at c.in_ok-first.ensures)
    (λ place asking. c.in_ok-trace-in-Asked.ensures job place asking) are is)
    c.one_text-in-Asked.ensures.texts c.one_text-in-Asked.ensures.refused
