-- The answer to a text, by whether it has tokens.
use Rattle.std.proofs.Common.{◌≡◌, ℕ, ◌+◌, List, length, Result, Ok, Err, sym, ap, ◌∙◌, subst}
use Rattle.pgql_lexer.specs.declared.token.Token.{Token}
use Rattle.pgql_lexer.specs.declared.token.LexFault.{LexFault}
use Rattle.pgql_lexer.specs.Tokens.{tokens}
use Rattle.pgql_tree.specs.declared.ast.Ast.{Ast}
use Rattle.pgql_syntax.specs.declared.tree.SyntaxFault.{SyntaxFault}
use Rattle.pgql_syntax.specs.declared.tree.SyntaxFault.TheVariants as fault
use Rattle.pgql_lexemes.specs.Seen.{lexemes}
use Rattle.pgql_lexemes.proofs.Cursor.{lexemes-tokens}
use Rattle.pgql_syntax.specs.Queries.{read_whole}
use Rattle.pgql_syntax.specs.Answers.{answer_of, answered, answer, Gives}

pub answer_lexed : (m base : ℕ) (text : List ℕ) (ts : List Token) → tokens base text ≡ Ok ts → (r : Result Ast SyntaxFault)
    → Gives r (answer_of (base + length text) (read_whole m (lexemes base text))) → Gives r (answer m base text)
unfolding answer
answer_lexed m base text ts is r gives =
    let same : answer_of (base + length text) (read_whole m (lexemes base text)) ≡ answered m base text (tokens base text) =
    ap (λ us. answer_of (base + length text) (read_whole m us)) (lexemes-tokens base text ts is) ∙ ap (answered m base text) (sym is) in
    subst (Gives r) same gives

pub answer_refused : (m base : ℕ) (text : List ℕ) (e : LexFault) → tokens base text ≡ Err e → Gives (Err (fault.Lex e)) (answer m base text)
unfolding answer
answer_refused m base text e is = λ not_memory. ap (answered m base text) is
