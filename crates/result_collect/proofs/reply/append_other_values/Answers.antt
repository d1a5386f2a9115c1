use Rattle.result_collect.proofs.Growing.{grows_on, on_err}
use Rattle.result_collect.proofs.reply.append_other_values.Goals as goal

pub returns-in_err-append_next_value-clause-err : goal.returns-in_err-append_next_value-clause-err
returns-in_err-append_next_value-clause-err c =
    on_err _ _ (grows_on c.args.out.now.items c.loop-value.out.items c.append_next_value.new.out.items c.loop-value.invariant.grows c.in_err-append_next_value.ensures.err)
