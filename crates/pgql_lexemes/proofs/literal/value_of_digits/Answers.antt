use Rattle.std.proofs.Common.{arith}
use Rattle.pgql_lexer.specs.Fronts.{value_after}
use Rattle.pgql_lexemes.proofs.Values.{next_value}
use Rattle.pgql_lexemes.proofs.literal.value_of_digits.Goals as goal

pub overflow_mul-value : goal.overflow_mul-value
overflow_mul-value c =
    let fits = next_value (value_after 0 c.args.digits.now) c.loop-rest.value c.loop-rest.rest.now c.in-len1-up.len_at_least c.loop-rest.invariant c.requires in
    omega arith

pub overflow_add-value : goal.overflow_add-value
overflow_add-value c =
    let fits = next_value (value_after 0 c.args.digits.now) c.loop-rest.value c.loop-rest.rest.now c.in-len1-up.len_at_least c.loop-rest.invariant c.requires in
    omega arith
