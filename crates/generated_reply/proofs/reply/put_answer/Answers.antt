use Rattle.std.proofs.Common.{ap}
use Rattle.hop_kernels.specs.PlanTrees.{over_of}
use Rattle.plan_tree.specs.PlanTree.{PlanOverParts}
use Rattle.generated_reply.proofs.Briefly.{rows_told}
use Rattle.generated_reply.proofs.reply.put_answer.Goals as goal

pub returns : goal.returns
returns c =
    let asked = c.requires.asked in
    rows_told c.args.texts.now c.args.graph (over_of c.in_ok-tree.tree).query c.args.query c.in_ok-rows.rows.items c.deref.result.now c.args.out.now.items c.put_rows.new.out.items
    c.put_rows.result c.deref.ensures.value
    (c.in_ok-rows.ensures.answer asked.0 c.args.graph (c.in_ok-tree.ensures.job asked.0 asked.1 asked.2 c.requires.meaning))
    (ap (λ (over : PlanOverParts). over.query) c.in_ok-tree.ensures.over) c.put_rows.ensures
