use Rattle.pgql_lexer.proofs.Scanning.{passes_gap, passes_token}
use Rattle.pgql_lexer.proofs.scan.pass_front.Goals as goal

pub returns-in-Gap-clause-ok : goal.returns-in-Gap-clause-ok
returns-in-Gap-clause-ok c = rw c.in-Gap.is (λ found. passes_gap found c.in-Gap.count c.args.place)

pub returns-in-Whole-clause-ok : goal.returns-in-Whole-clause-ok
returns-in-Whole-clause-ok c = rw c.in-Whole.is (λ found. passes_token found c.in-Whole.field-0 c.in-Whole.count c.args.place)
