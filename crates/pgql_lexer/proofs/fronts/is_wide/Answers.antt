use Rattle.std.proofs.Common.{sym, ap, ◌∙◌, arith}
use Rattle.std.specs.Prelude.{nat_lt}
use Rattle.pgql_lexer.specs.Fronts.{most_number}
use Rattle.pgql_lexer.proofs.Digits.{value_after-wide}
use Rattle.pgql_lexer.proofs.fronts.is_wide.Goals as goal

pub returns-then-value-digit : goal.returns-then-value-digit
returns-then-value-digit c =
    sym (ap (nat_lt most_number) (sym c.loop-rest.invariant.goes_on) ∙ value_after-wide c.loop-rest.value c.from-digit.result c.loop-rest.rest.now c.in-len1-up.len_at_least (c.from-digit.ensures ∙ c.saturating_sub.ensures)
    (let small = c.saturating_sub.type_inv in let same = c.from-digit.ensures in omega arith) c.if-value-digit.true)
