use Rattle.std.proofs.Common.{◌≡◌, ◌+◌, List, length}
use Rattle.pgql_lexer.specs.declared.token.Token.{Token}
use Rattle.pgql_lexer.specs.Tokens.{tokens, tokens_from, with_front}
use Rattle.pgql_lexer.proofs.scan.check.Given as goal

abbrev pub invariant-loop-rest : goal.invariant-loop-rest
invariant-loop-rest l = record {
  so_far : (found : List Token) × (tokens l.base l.text ≡ with_front found (tokens_from 0 l.place l.rest));
  left : l.place + length l.rest ≡ l.base + length l.text;
}

abbrev pub decreases-loop-rest : goal.decreases-loop-rest
decreases-loop-rest l = length l.rest
