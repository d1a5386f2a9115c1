-- Reading as a function on lists of lexemes: what it gives, and the lexemes after it, or why not and the lexemes from the refused one on.
use Rattle.std.specs.Prelude.{ℕ, Bool, true, false, nat_lt, List, [], ◌∷◌, Option, Some, None, Result, Ok, Err}
use denote.Enum.Bare.{sameb}
use Rattle.pgql_lexemes.specs.contracts.kind.Kind.{the_type}
use Rattle.pgql_lexemes.specs.declared.kind.Kind.{Kind}
use Rattle.pgql_lexemes.specs.Lexemes.{Lexeme, is_word, place}

pub data Refusal : Type 0 where
  unexpected deep : Refusal

abbrev pub Outcome : Type 0 → Type 0
Outcome A = Result (A × List Lexeme) (Refusal × List Lexeme)

abbrev pub Parser : Type 0 → Type 0
Parser A = List Lexeme → Outcome A

abbrev pub and_then : {A B : Type 0} → Outcome A → (A → Parser B) → Outcome B
and_then (Ok p) f = f p.0 p.1
and_then (Err e) f = Err e

infixl 10 ◌>>=◌
abbrev pub ◌>>=◌ : {A B : Type 0} → Parser A → (A → Parser B) → Parser B
p >>= f = λ ts. and_then (p ts) f

infixl 10 ◌>>◌
abbrev pub ◌>>◌ : {A B : Type 0} → Parser A → Parser B → Parser B
p >> q = p >>= (λ _. q)

abbrev pub pure : {A : Type 0} → A → Parser A
pure a = λ ts. Ok (a, ts)

-- the place of the next token
abbrev pub here : Parser ℕ
here = λ ts. Ok (place ts, ts)

abbrev pub refuse : {A : Type 0} → Refusal → Parser A
refuse why = λ ts. Err (why, ts)

abbrev pub first : List Lexeme → Option Lexeme
first [] = None
first (t ∷ ts) = Some t

abbrev pub by_first : {A : Type 0} → Parser A → (Lexeme → Parser A) → Option Lexeme → Parser A
by_first end next None = end
by_first end next (Some t) = next t

-- goes on by the next token, which is not taken
abbrev pub by_next : {A : Type 0} → Parser A → (Lexeme → Parser A) → Parser A
by_next end next = λ ts. by_first end next (first ts) ts

abbrev pub take_token : Parser Lexeme
take_token [] = Err (unexpected, [])
take_token (t ∷ ts) = Ok (t, ts)

-- `==` on kinds
unfoldable pub same_kind : Kind → Kind → Bool
same_kind = sameb the_type

-- the token, if it passes a test
abbrev pub expect_by : Bool → Parser Lexeme
expect_by true = take_token
expect_by false = refuse unexpected

unfoldable pub expect : Kind → Parser Lexeme
expect kind = by_next (refuse unexpected) (λ t. expect_by (same_kind t.kind kind))

unfoldable pub expect_word : Parser Lexeme
expect_word = by_next (refuse unexpected) (λ t. expect_by (is_word t.kind))

abbrev pub deeper_by : Bool → Parser (Unit {0})
deeper_by true = pure tt
deeper_by false = refuse deep

-- what is this high may have one level more above it
unfoldable pub deeper : ℕ → ℕ → Parser (Unit {0})
deeper most height = deeper_by (nat_lt height most)
