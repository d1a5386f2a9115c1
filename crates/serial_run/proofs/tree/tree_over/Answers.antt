use Rattle.std.proofs.Common.{◌≡◌, ◌∙◌, ap, arith, length, refl}
use Rattle.hop_kernels.specs.PlanTrees.{over_of}
use Rattle.plan_tree.specs.Laws.{over_parts}
use Rattle.serial_run.proofs.Asking.{job_over, length-parts_of}
use Rattle.serial_run.proofs.tree.tree_over.Goals as goal

pub new-requires-clause-parts : goal.new-requires-clause-parts
new-requires-clause-parts c = record {
  graph = c.args.graph;
  owner = c.args.owner.now;
  machines = c.args.machines;
  some = c.requires.some;
  few = omega arith;
  owned = c.requires.owner;
  ends = c.vertices-vertices.ensures.ends;
  parts_are = c.in_ok-parts.ensures.parts;
}

pub returns-clause-over : goal.returns-clause-over
returns-clause-over c = rw (c.new.ensures.over, c.in_ok-parts.ensures.parts, c.requires.plan) refl

pub returns-clause-machines : goal.returns-clause-machines
returns-clause-machines c =
    ap (λ o. length o.parts) c.new.ensures.over ∙ ap length c.in_ok-parts.ensures.parts ∙ length-parts_of c.args.graph c.args.owner.now c.args.machines

pub returns-clause-job : goal.returns-clause-job
returns-clause-job c = λ schema values kinds meaning.
    let over : over_of c.new.result ≡ over_parts c.args.texts.now c.args.graph c.args.query c.args.owner.now c.args.machines
    = rw (c.new.ensures.over, c.in_ok-parts.ensures.parts, c.requires.plan) refl in
    job_over c.args.texts.now schema c.args.graph c.args.query c.args.owner.now c.args.machines (over_of c.new.result) over
    c.requires.some (omega arith) c.requires.owner c.vertices-vertices.ensures.ends (omega arith) (omega arith)
    values kinds c.requires.well c.requires.room meaning (omega arith)
