use Rattle.std.proofs.Common.{refl, arith}
use Rattle.pgql_lexer.specs.Tokens.{tokens}
use Rattle.pgql_lexemes.specs.Told.{told}
use Rattle.pgql_lexemes.proofs.Cursor.{first_sound, no_lexemes, lexemes-first}
use Rattle.pgql_lexemes.proofs.input.Input.new.Goals as goal

pub invariant_of-t-5 : goal.invariant_of-t-5
unfolding tokens
invariant_of-t-5 c = (let short = c.requires.short in omega arith, refl)

pub lexeme-requires : goal.lexeme-requires
lexeme-requires c = first_sound c.args.base c.args.text.now c.in-Some.token c.in-Some.ensures

pub returns-in-None : goal.returns-in-None
returns-in-None c = no_lexemes c.args.base c.args.text.now c.in-None.ensures

pub returns-in-Some : goal.returns-in-Some
returns-in-Some c = lexemes-first c.args.base c.args.text.now c.in-Some.token (told c.lexeme.result) c.lexeme.ensures c.in-Some.ensures
