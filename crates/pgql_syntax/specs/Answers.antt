-- What a text is answered: its tree, or why it has none.
use Rattle.std.specs.Prelude.{◌≡◌, ◌≢◌, ℕ, ◌+◌, List, map, length, Result, Ok, Err}
use Rattle.pgql_lexer.specs.declared.token.Token.{Token}
use Rattle.pgql_lexer.specs.declared.token.LexFault.{LexFault}
use Rattle.pgql_lexer.specs.Tokens.{tokens}
use Rattle.pgql_tree.specs.declared.ast.Ast.{Ast}
use Rattle.pgql_syntax.specs.declared.tree.SyntaxFault.{SyntaxFault}
use Rattle.pgql_syntax.specs.declared.tree.SyntaxFault.TheVariants as fault
use Rattle.pgql_lexemes.specs.Seen.{seen}
use Rattle.pgql_syntax.specs.Places.{place_or}
use Rattle.pgql_expr.specs.Reading.{Refusal, unexpected, deep, Outcome}
use Rattle.pgql_syntax.specs.Queries.{read_whole}

abbrev pub fault_of : Refusal → ℕ → SyntaxFault
fault_of unexpected at = fault.Unexpected at
fault_of deep at = fault.Deep at

-- what reading gives, in a text that ends there
abbrev pub answer_of : ℕ → Outcome Ast → Result Ast SyntaxFault
answer_of end (Ok found) = Ok found.0
answer_of end (Err stopped) = Err (fault_of stopped.0 (place_or end stopped.1))

abbrev pub answered : ℕ → ℕ → List ℕ → Result (List Token) LexFault → Result Ast SyntaxFault
answered most base text (Err e) = Err (fault.Lex e)
answered most base text (Ok found) = answer_of (base + length text) (read_whole most (map (seen text base) found))

unfoldable pub answer : ℕ → ℕ → List ℕ → Result Ast SyntaxFault
answer most base text = answered most base text (tokens base text)

-- the call returned this, unless memory ran out
abbrev pub Gives : Result Ast SyntaxFault → Result Ast SyntaxFault → Type 0
Gives (Ok q) given = given ≡ Ok q
Gives (Err e) given = e ≢ fault.NoMemory → given ≡ Err e
