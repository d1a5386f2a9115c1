use Rattle.std.proofs.Common.{◌+◌, map, arith, rules}
use Rattle.pgql_lexer.specs.Tokens.{stretch_of}
use Rattle.pgql_lexer.proofs.Between.{StandBetween-widen, TokensBetween-push}
use Rattle.pgql_lexer.proofs.tokens.take_front.Goals as goal

pub returns-in-Gap-clause-order : goal.returns-in-Gap-clause-order
returns-in-Gap-clause-order c = λ from stand. StandBetween-widen from c.args.place (c.args.place + c.in-Gap.count) (map stretch_of c.args.found.now.items) (omega arith) stand

pub returns-in_ok-map_err-in-Whole-clause-order : goal.returns-in_ok-map_err-in-Whole-clause-order
returns-in_ok-map_err-in-Whole-clause-order c = λ from stand.
    TokensBetween-push from c.args.place (c.args.place + c.in-Whole.count) c.args.found.now.items c.push.new.self.items (record { kind = c.in-Whole.kind; at = c.args.place; end = c.args.place + c.in-Whole.count }) (search rules) stand (omega arith) (search (rules, arith)) (omega arith)
