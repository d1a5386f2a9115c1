use Rattle.std.proofs.Common.{◌≤◌, sym, ap, subst}
use Rattle.adfs_base.specs.declared.limits.TheConstants.{CONTEXT_WORDS}
use Rattle.stage_plan.specs.Plans.{words_of}
use Rattle.run_replies.specs.Jobs.{schema_of}
use Rattle.run_replies.proofs.Tracing.{trace_by}
use Rattle.run_replies.proofs.traces.trace_query.Goals as goal

pub trace_text-requires-clause-same : goal.trace_text-requires-clause-same
trace_text-requires-clause-same c = sym (ap (λ over. over.texts) c.in_ok-tree.ensures.over)

pub trace_text-requires-clause-room : goal.trace_text-requires-clause-room
trace_text-requires-clause-room c = subst (λ over. words_of over.query ≤ CONTEXT_WORDS) (sym c.in_ok-tree.ensures.over) c.requires.asked.is.accepted.has_plan.room

pub trace_text-requires-clause-job : goal.trace_text-requires-clause-job
trace_text-requires-clause-job c =
    let some = c.requires.asked in
    record { schema = schema_of some.job.graph; graph = c.args.asking.graph; job = c.in_ok-tree.ensures.job some.job some.place some.is }

pub returns : goal.returns
returns c = λ job place is.
    trace_by c.args.header.now job place c.args.texts.now c.args.asking _ c.shape_of-shape.result c.trace_text.result is c.in_ok-tree.ensures.over (rw c.stages.ensures.stages at c.shape_of-shape.ensures)
    (c.trace_text.ensures (schema_of job.graph) c.args.asking.graph (c.in_ok-tree.ensures.job job place is))
