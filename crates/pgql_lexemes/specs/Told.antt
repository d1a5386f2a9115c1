-- What a token of the code is to the grammar.
use Rattle.std.specs.Prelude.{List, Result, Ok, Err}
use Rattle.pgql_lexemes.specs.Lexemes.{Lexeme}
use Rattle.pgql_lexemes.specs.Parsers.{Outcome}
use Rattle.pgql_lexemes.specs.Reads.{Reads}
use Rattle.pgql_lexemes.specs.declared.input.Stop.{Stop}
use Rattle.pgql_lexemes.specs.declared.lexeme.Lexeme as code

abbrev pub told : code.Lexeme → Lexeme
told t = record { kind = t.kind; bytes = t.bytes.now; at = t.at }

abbrev pub told_of : Result code.Lexeme Stop → Result Lexeme Stop
told_of (Ok t) = Ok (told t)
told_of (Err e) = Err e

-- what a function that reads a token ensures
abbrev pub ReadsToken : Outcome Lexeme → Result code.Lexeme Stop → List Lexeme → Type 0
ReadsToken outcome result new = Reads outcome (told_of result) new
