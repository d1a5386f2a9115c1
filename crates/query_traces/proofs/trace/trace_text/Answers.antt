use Rattle.std.proofs.Common.{◌∙◌, ap, ◌++◌}
use Rattle.hop_kernels.specs.PlanTrees.{over_of}
use Rattle.pgql_meaning.specs.Answer.{answer_of}
use Rattle.plan_tree.specs.PlanTree.{tree_of}
use Rattle.result_collect.specs.Replies.{reply_text}
use Rattle.query_traces.proofs.Texts.{whole}
use Rattle.query_traces.proofs.trace.trace_text.Goals as goal

pub returns : goal.returns
returns c = λ schema graph job.
    whole c.args.header.now (tree_of (over_of c.args.tree.now)) c.args.shape.now
    (reply_text c.args.texts.now c.args.number (over_of c.args.tree.now).query (answer_of c.args.texts.now graph (over_of c.args.tree.now).query))
    c.new-out.result.items c.write_lines.new.out.items c.extend_from_slice.new.self.items c.in_ok-leaves.leaves.items c.new-out.ensures.items c.in_ok-leaves.ensures.written
    (c.in_ok-extend_from_slice.ensures.items ∙ ap (λ t. c.write_lines.new.out.items ++ t) (c.deref.ensures.value ∙ c.in_ok-reply.ensures schema graph job))
