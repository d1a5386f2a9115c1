-- The tokens of a text as the grammar sees them.
use Rattle.std.specs.Prelude.{◌≤◌, ℕ, ◌+◌, ◌-◌, Bool, ◌==◌, if◌then◌else◌, List, [], ◌∷◌, map, take, drop, length, slice_index, codes, Option, Some, None, Result, Ok, Err}
use Rattle.std.specs.Str.{str_eq_ignore_ascii_case}
use Rattle.pgql_lexer.specs.declared.token.Token.{Token}
use Rattle.pgql_lexer.specs.declared.token.LexFault.{LexFault}
use Rattle.pgql_lexer.specs.Tokens.{tokens}
use Rattle.pgql_lexer.specs.declared.token.TokenKind.{TokenKind}
use Rattle.pgql_lexer.specs.declared.token.TokenKind.TheVariants as token
use Rattle.pgql_lexemes.specs.declared.kind.Kind.{Kind}
use Rattle.pgql_lexemes.specs.declared.kind.Kind.TheVariants as k
use Rattle.pgql_lexemes.specs.Lexemes.{Lexeme, IsToken}

-- keywords are read in any case
abbrev pub is : List ℕ → List ℕ → Bool
is bytes word = str_eq_ignore_ascii_case bytes word

abbrev pub clause_word : List ℕ → Option Kind
clause_word bytes =
    if is bytes (codes "select") then Some k.Select
    else (if is bytes (codes "distinct") then Some k.Distinct
    else (if is bytes (codes "as") then Some k.As
    else (if is bytes (codes "match") then Some k.Match
    else (if is bytes (codes "where") then Some k.Where
    else None))))

abbrev pub order_word : List ℕ → Option Kind
order_word bytes =
    if is bytes (codes "order") then Some k.Order
    else (if is bytes (codes "by") then Some k.By
    else (if is bytes (codes "asc") then Some k.Asc
    else (if is bytes (codes "desc") then Some k.Desc
    else (if is bytes (codes "limit") then Some k.Limit
    else None))))

abbrev pub logic_word : List ℕ → Option Kind
logic_word bytes =
    if is bytes (codes "and") then Some k.And
    else (if is bytes (codes "or") then Some k.Or
    else (if is bytes (codes "not") then Some k.Not
    else (if is bytes (codes "is") then Some k.Is
    else None)))

abbrev pub value_word : List ℕ → Option Kind
value_word bytes =
    if is bytes (codes "null") then Some k.Null
    else (if is bytes (codes "true") then Some k.True
    else (if is bytes (codes "false") then Some k.False
    else (if is bytes (codes "date") then Some k.Date
    else None)))

abbrev pub first_kind : Option Kind → Kind → Kind
first_kind None other = other
first_kind (Some kind) other = kind

-- the keyword that a word is, or a name
unfoldable pub word_kind : List ℕ → Kind
word_kind bytes = first_kind (clause_word bytes) (first_kind (order_word bytes) (first_kind (logic_word bytes) (first_kind (value_word bytes) k.Name)))

-- `( ) [ ] , : . |`
abbrev pub mark_kind : ℕ → Option Kind
mark_kind byte =
    if byte == 40 then Some k.Open
    else (if byte == 41 then Some k.Close
    else (if byte == 91 then Some k.OpenBracket
    else (if byte == 93 then Some k.CloseBracket
    else (if byte == 44 then Some k.Comma
    else (if byte == 58 then Some k.Colon
    else (if byte == 46 then Some k.Dot
    else (if byte == 124 then Some k.Bar
    else None)))))))

-- `+ - * / =`, or else `%`
abbrev pub operator_kind : ℕ → Kind
operator_kind byte =
    if byte == 43 then k.Plus
    else (if byte == 45 then k.Minus
    else (if byte == 42 then k.Star
    else (if byte == 47 then k.Slash
    else (if byte == 61 then k.Equal
    else k.Percent))))

-- `<`, `<>` or `<=`
abbrev pub less_kind : ℕ → Kind
less_kind next = if next == 62 then k.Unequal else (if next == 61 then k.LessEqual else k.Less)

-- `>` or `>=`
abbrev pub greater_kind : ℕ → Kind
greater_kind next = if next == 61 then k.GreaterEqual else k.Greater

-- the kind of a symbol, by its first byte and the next
abbrev pub pair_kind : ℕ → ℕ → Kind
pair_kind byte next =
    if byte == 60 then less_kind next
    else (if byte == 62 then greater_kind next
    else first_kind (mark_kind byte) (operator_kind byte))

unfoldable pub symbol_kind : List ℕ → Kind
symbol_kind bytes = pair_kind (slice_index bytes 0) (slice_index bytes 1)

abbrev pub kind_of : TokenKind → List ℕ → Kind
kind_of token.Word bytes = word_kind bytes
kind_of token.Number bytes = k.Number
kind_of token.Text bytes = k.Text
kind_of token.Symbol bytes = symbol_kind bytes

-- the bytes from one place to another, in a text whose first byte stands at `base`
abbrev pub part : List ℕ → ℕ → ℕ → ℕ → List ℕ
part text base at end = take (end - at) (drop (at - base) text)

abbrev pub seen_as : TokenKind → List ℕ → ℕ → Lexeme
seen_as kind bytes at = record { kind = kind_of kind bytes; bytes = bytes; at = at }

-- a token of a text whose first byte stands at `base`
abbrev pub seen : List ℕ → ℕ → Token → Lexeme
seen text base t = seen_as t.kind (part text base t.at t.end) t.at

-- The token lies in the text and is what its kind says.
pub record IsTokenOf (text : List ℕ) (base : ℕ) (t : Token) : Type 0 where
  pub low : base ≤ t.at
  pub ordered : t.at ≤ t.end
  pub high : t.end ≤ base + length text
  pub is_token : IsToken (seen text base t)

abbrev pub tokens_or_none : Result (List Token) LexFault → List Token
tokens_or_none (Ok ts) = ts
tokens_or_none (Err e) = []

-- the tokens of a text whose first byte stands at `base`, none where it has none
unfoldable pub lexemes : ℕ → List ℕ → List Lexeme
lexemes base text = map (seen text base) (tokens_or_none (tokens base text))

-- this token, if there is one, before these
abbrev pub onto : Option Lexeme → List Lexeme → List Lexeme
onto None ts = []
onto (Some t) ts = t ∷ ts
