use Rattle.std.proofs.Common.{◌≡◌}
use Rattle.hop_kernels.specs.PlanTrees.{over_of}
use Rattle.pgql_meaning.specs.Answer.{answer_of}
use Rattle.pgql_meaning.specs.Shown.{AreShown}
use Rattle.serial_run.proofs.Answering.{answer_is_shown, if_ok}
use Rattle.serial_run.proofs.answer.rows_by_core.Goals as goal

pub returns-clause-answer : goal.returns-clause-answer
returns-clause-answer c = λ schema graph job. c.rows_of_leaves.ensures schema graph job c.in_ok-leaves.ensures

pub returns-clause-shown : goal.returns-clause-shown
returns-clause-shown c = λ some.
    let over = over_of c.args.tree.now in
    let given = rw c.requires.same at (c.rows_of_leaves.ensures some.schema some.graph some.job c.in_ok-leaves.ensures) in
    rw c.requires.same (if_ok (λ rows. rows.items ≡ answer_of over.texts some.graph over.query) (λ rows. AreShown over.texts rows.items)
    (λ rows is. answer_is_shown over some rows.items is) c.rows_of_leaves.result given)
