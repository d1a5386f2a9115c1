use Rattle.std.proofs.Common.{◌<◌, ◌^◌, length, rules, subst, sym}
use Rattle.serial_run.specs.Engines.{ArePartsOf}
use Rattle.run_replies.specs.Jobs.{without_texts}
use Rattle.run_replies.proofs.JobFacts.{split_by}
use Rattle.run_replies.proofs.answer.rows_over.Goals as goal

pub returns : goal.returns
returns c =
    let few_vertices : length c.args.graph.vertices < 2 ^ 32 = search rules in
    let few_edges : length c.args.graph.edges < 2 ^ 32 = search rules in
    let graph = without_texts c.args.graph in
    let parts = c.in_ok-parts.parts.items in
    subst (λ e. ArePartsOf graph e.shape.machines e.parts) (sym c.new.ensures)
    (subst (λ s. ArePartsOf graph s.machines parts) (sym c.shape_of.ensures)
    (split_by c.args.header.now c.args.graph c.args.owner.now parts c.requires.limits c.requires.owner c.in_ok-parts.ensures.parts c.vertices-vertices.ensures.ends few_vertices few_edges))
