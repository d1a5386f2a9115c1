use Rattle.result_collect.proofs.Growing.{grows_on, on_err}
use Rattle.result_collect.proofs.reply.append_rows.Goals as goal

pub returns-in_err-append_row-clause-err : goal.returns-in_err-append_row-clause-err
returns-in_err-append_row-clause-err c =
    on_err _ _ (grows_on c.args.out.now.items c.loop-row.out.items c.append_row.new.out.items c.loop-row.invariant.grows c.in_err-append_row.ensures.err)
