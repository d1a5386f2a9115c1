-- A plan's tree as contracts see it.
use Rattle.plan_tree.specs.PlanTree.{PlanOverParts}
use Rattle.hop_kernels.specs.declared.tree.PlanTree.{PlanTree}

-- the plan, the query, the parts and the texts of a tree
abbrev pub over_of : PlanTree → PlanOverParts
over_of tree = record { texts = tree.texts.now; query = tree.query; plan = tree.plan; parts = tree.parts.items }
