use Rattle.result_collect.proofs.Growing.{grows_on, on_err}
use Rattle.result_collect.proofs.reply.append_other_names.Goals as goal

pub returns-in_err-append_next_name-clause-err : goal.returns-in_err-append_next_name-clause-err
returns-in_err-append_next_name-clause-err c =
    on_err _ _ (grows_on c.args.out.now.items c.loop-column.out.items c.append_next_name.new.out.items c.loop-column.invariant.grows c.in_err-append_next_name.ensures.err)
