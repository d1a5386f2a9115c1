use Rattle.std.proofs.Common.{sym, subst}
use Rattle.std.specs.List.{AllByRecursion}
use Rattle.match_context.specs.Tree.{IsTree}
use Rattle.stage_plan.specs.Plans.{plan_of}
use Rattle.plan_tree.specs.PlanTree.{tree_of}
use Rattle.plan_tree.proofs.Trees.{plans_make_trees}
use Rattle.hop_kernels.specs.Fitting.{StageFits}
use Rattle.hop_kernels.proofs.Rising.{parts-rising}
use Rattle.hop_kernels.proofs.Roots.{parts-few, parts-numbered}
use Rattle.hop_kernels.proofs.StageFitting.{plan_fits}
use Rattle.hop_kernels.proofs.tree.PlanTree.new.Goals as goal

pub invariant_of-result : goal.invariant_of-result
invariant_of-result c =
    let texts = c.args.texts.now in
    let query = c.args.query in
    let are = c.requires.parts in
    record {
      tests_are = c.label_tests-tests.ensures;
      few = parts-few c.args.parts.items are;
      numbered = parts-numbered c.args.parts.items are;
      rising = parts-rising c.args.parts.items are;
      room = c.requires.room;
      fits = subst (λ plan. AllByRecursion (StageFits query) plan.stages) (sym c.requires.plan) (plan_fits query c.requires.well);
      a_tree = subst (λ plan. IsTree (tree_of (record { texts = texts; query = query; plan = plan; parts = c.args.parts.items }))) (sym c.requires.plan)
          (subst (λ parts. IsTree (tree_of (record { texts = texts; query = query; plan = plan_of query; parts = parts }))) (sym are.parts_are)
          (plans_make_trees texts are.graph query are.owner are.machines are.some are.owned are.ends c.requires.well));
    }
