-- Where a text is refused, and why.
use Rattle.std.specs.Prelude.{◌≡◌, ℕ, ◌+◌, List, [], ◌∷◌, ◌++◌, map, length, Ok, Err}
use Rattle.std.specs.List.{AllByRecursion}
use Rattle.pgql_lexer.specs.declared.token.Token.{Token}
use Rattle.pgql_lexer.specs.declared.token.TokenKind.{TokenKind}
use Rattle.pgql_lexer.specs.declared.fronts.Front.TheVariants as front
use Rattle.pgql_lexer.specs.Fronts.{front_of}
use Rattle.pgql_lexer.specs.Tokens.{tokens}
use Rattle.pgql_tree.specs.declared.ast.Ast.{Ast}
use Rattle.pgql_syntax.specs.declared.tree.SyntaxFault.{SyntaxFault}
use Rattle.pgql_syntax.specs.declared.tree.SyntaxFault.TheVariants as fault
use Rattle.pgql_lexemes.specs.Lexemes.{Lexeme}
use Rattle.pgql_lexemes.specs.Seen.{kind_of, seen}
use Rattle.pgql_syntax.specs.Grammar.{IsQuery}
use Rattle.pgql_expr.specs.Reading.{Refusal, unexpected, deep}

-- ---- trees

-- the tree is that of the text, whose first byte stands at `base`; no expression in it is higher than the number
abbrev pub IsTree : ℕ → ℕ → List ℕ → Ast → Type 0
IsTree most base text q = (ts : List Token) × (tokens base text ≡ Ok ts) × IsQuery most (map (seen text base) ts) q

-- ---- tokens after which there is a query

-- The bytes are one token of a text, and that is its kind.
pub record IsWritten (t : Lexeme) : Type 0 where
  pub token_kind : TokenKind
  pub one_token : front_of t.bytes ≡ front.Whole token_kind (length t.bytes)
  pub kind_is : t.kind ≡ kind_of token_kind t.bytes

-- some query within the bound on height begins with these tokens
pub record IsLive (most : ℕ) (front : List Lexeme) : Type 0 where
  pub more : List Lexeme
  pub written : AllByRecursion IsWritten more
  pub query : Ast
  pub is_query : IsQuery most (front ++ more) query

-- Some query within the bound goes on with the next token. At the end, these tokens are a query.
abbrev pub GoesOn : ℕ → List Lexeme → List Lexeme → Type 0
GoesOn most front [] = (q : Ast) × IsQuery most front q
GoesOn most front (t ∷ rest) = IsLive most (front ++ t ∷ [])

-- why the next token, or the end, is refused: it is too deep where a query of any height goes on so, and else unexpected
abbrev pub Because : Refusal → List Lexeme → List Lexeme → Type 0
Because unexpected front rest = (most : ℕ) → GoesOn most front rest → ⊥
Because deep front rest = (most : ℕ) × GoesOn most front rest

-- The first token with which no query within the bound goes on is the first of the rest, or the end.
pub record IsRefused (most : ℕ) (ts : List Lexeme) (why : Refusal) (rest : List Lexeme) : Type 0 where
  pub front : List Lexeme
  pub splits : ts ≡ front ++ rest
  pub live : IsLive most front
  pub stops : GoesOn most front rest → ⊥
  pub because : Because why front rest

-- the place of the first token, or of the end
abbrev pub place_or : ℕ → List Lexeme → ℕ
place_or end [] = end
place_or end (t ∷ rest) = t.at

-- the tokens of the text are refused at this place
pub record IsRefusedAt (most base : ℕ) (text : List ℕ) (why : Refusal) (at : ℕ) : Type 0 where
  pub found : List Token
  pub tokens_are : tokens base text ≡ Ok found
  pub rest : List Lexeme
  pub refused : IsRefused most (map (seen text base) found) why rest
  pub place_is : at ≡ place_or (base + length text) rest

-- The text is refused for this cause.
abbrev pub IsFault : ℕ → ℕ → List ℕ → SyntaxFault → Type 0
IsFault most base text (fault.Lex e) = tokens base text ≡ Err e
IsFault most base text (fault.Unexpected at) = IsRefusedAt most base text unexpected at
IsFault most base text (fault.Deep at) = IsRefusedAt most base text deep at
IsFault most base text fault.NoMemory = ⊥
