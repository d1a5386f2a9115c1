use Rattle.std.proofs.Common.{rules}
use Rattle.answer_rows.specs.Arranged.{match_order}
use Rattle.answer_rows.proofs.Totals.{match_order-total}
use Rattle.answer_rows.proofs.arrange.sort.Goals as goal

pub returns : goal.returns
returns c =
    c.in_ok-sort_by.ensures.sorted (match_order c.args.texts.now c.args.arrangement.now) (match_order-total c.args.texts.now c.args.arrangement.now)
    (λ pair answer after called. search rules)
