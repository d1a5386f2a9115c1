use Rattle.generated_graph.specs.Loading.{graph_due}
use Rattle.generated_reply.proofs.Briefly.{generates_by}
use Rattle.generated_reply.proofs.reply.generated_reply.Goals as goal

pub returns-in-Ok : goal.returns-in-Ok
returns-in-Ok c =
    generates_by c.in-Ok.graph (graph_due c.args.seed c.args.vertices c.args.edges) c.args.vertices c.args.edges c.summary_of.result c.in-Ok.ensures.gives c.summary_of.ensures
