use Rattle.run_replies.specs.Jobs.{schema_of}
use Rattle.run_replies.proofs.traces.tree_of.Goals as goal

pub tree_over-requires-clause-plan : goal.tree_over-requires-clause-plan
tree_over-requires-clause-plan c = c.requires.asked.is.accepted.has_plan.plan_is

pub tree_over-requires-clause-well : goal.tree_over-requires-clause-well
tree_over-requires-clause-well c = c.requires.asked.is.accepted.well

pub tree_over-requires-clause-room : goal.tree_over-requires-clause-room
tree_over-requires-clause-room c = c.requires.asked.is.accepted.has_plan.room

pub returns-clause-job : goal.returns-clause-job
returns-clause-job c = λ job place is. c.tree_over.ensures.job (schema_of job.graph) is.values is.accepted.kinds is.accepted.meaning
