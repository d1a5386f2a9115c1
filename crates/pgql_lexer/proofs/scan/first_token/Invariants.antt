use Rattle.std.proofs.Common.{◌≡◌, ◌≤◌, ◌+◌, ◌-◌, length, drop}
use Rattle.pgql_lexer.specs.Tokens.{tokens, tokens_from}
use Rattle.pgql_lexer.proofs.scan.first_token.Given as goal

abbrev pub invariant-loop-rest : goal.invariant-loop-rest
invariant-loop-rest l = record {
  so_far : tokens l.fn.place l.text ≡ tokens_from 0 l.at l.rest;
  low : l.fn.place ≤ l.at;
  here : l.rest ≡ drop (l.at - l.fn.place) l.text;
  left : l.at + length l.rest ≡ l.fn.place + length l.text;
}

abbrev pub decreases-loop-rest : goal.decreases-loop-rest
decreases-loop-rest l = length l.rest
