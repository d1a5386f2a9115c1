use Rattle.std.proofs.Common.{◌≡◌, ◌+◌, ◌≤◌, length}
use Rattle.pgql_lexer.specs.Tokens.{TokensBetween, tokens, tokens_from, with_front}
use Rattle.pgql_lexer.proofs.tokens.lex.Given as goal

abbrev pub invariant-loop-rest : goal.invariant-loop-rest
invariant-loop-rest l = record {
  so_far : tokens l.base l.text ≡ with_front l.found.items (tokens_from 0 l.place l.rest);
  order : TokensBetween l.base l.place l.found.items;
  few : length l.found.items + l.base ≤ l.place;
  left : l.place + length l.rest ≡ l.base + length l.text;
}

abbrev pub decreases-loop-rest : goal.decreases-loop-rest
decreases-loop-rest l = length l.rest
