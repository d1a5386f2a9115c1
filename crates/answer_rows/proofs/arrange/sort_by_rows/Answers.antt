use Rattle.std.proofs.Common.{rules}
use Rattle.answer_rows.specs.Arranged.{rows_order}
use Rattle.answer_rows.proofs.Totals.{rows_order-total}
use Rattle.answer_rows.proofs.arrange.sort_by_rows.Goals as goal

pub returns : goal.returns
returns c =
    c.in_ok-sort_by.ensures.sorted (rows_order c.args.texts.now) (rows_order-total c.args.texts.now)
    (λ pair answer after called. search rules)
