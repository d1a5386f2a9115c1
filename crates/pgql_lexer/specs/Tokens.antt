-- The tokens of a text, or the first reason why it has none.
use Rattle.std.specs.Prelude.{◌≡◌, ℕ, zero, suc, ◌+◌, ◌-◌, List, [], ◌∷◌, ◌++◌, map, drop, length, Option, Some, None, Result, Ok, Err}
use Rattle.pgql_lexer.specs.declared.token.Token.{Token}
use Rattle.pgql_lexer.specs.declared.token.LexFault.{LexFault}
use Rattle.pgql_lexer.specs.declared.token.LexFault.TheVariants as fault
use Rattle.pgql_lexer.specs.declared.fronts.Front.{Front}
use Rattle.pgql_lexer.specs.declared.fronts.Front.TheVariants as front
use Rattle.pgql_lexer.specs.Fronts.{Bytes, front_of}
use Rattle.pgql_lexer.specs.Places.{LiesBetween, StandBetween}

abbrev pub Lexed : Type 0
Lexed = Result (List Token) LexFault

-- these tokens, before those of what follows
abbrev pub with_front : List Token → Lexed → Lexed
with_front tokens (Ok more) = Ok (tokens ++ more)
with_front tokens (Err e) = Err e

-- What stands at a place, before what follows it. That is given by how many bytes are to be passed over,
-- from the second one on.
abbrev pub lexed_after : Front → ℕ → (ℕ → Lexed) → Lexed
lexed_after (front.Gap count) place rest = rest (count - 1)
lexed_after (front.Whole kind count) place rest = with_front (record { kind = kind; at = place; end = place + count } ∷ []) (rest (count - 1))
lexed_after (front.BadCharacter count) place rest = Err (fault.BadCharacter (place + count))
lexed_after front.OpenText place rest = Err (fault.OpenText place)
lexed_after front.OpenComment place rest = Err (fault.OpenComment place)
lexed_after front.WideNumber place rest = Err (fault.WideNumber place)

-- the tokens of a text that goes on at this place, where so many bytes belong to what came before
abbrev pub tokens_from : ℕ → ℕ → Bytes → Lexed
tokens_from passed place [] = Ok []
tokens_from (suc passed) place (byte ∷ bytes) = tokens_from passed (place + 1) bytes
tokens_from zero place (byte ∷ bytes) = lexed_after (front_of (byte ∷ bytes)) place (λ passed. tokens_from passed (place + 1) bytes)

-- the tokens of a text that begins at this place
unfoldable pub tokens : ℕ → Bytes → Lexed
tokens base text = tokens_from 0 base text

-- What the call returned, seen as a list, is this, unless memory ran out.
abbrev pub Gives : {X : Type 0} → (X → List Token) → Result X LexFault → Lexed → Type 0
Gives view (Ok found) lexed = lexed ≡ Ok (view found)
Gives view (Err fault.NoMemory) lexed = Unit {0}
Gives view (Err e) lexed = lexed ≡ Err e

-- from a token's first byte to the place after its last
abbrev pub stretch_of : Token → ℕ × ℕ
stretch_of token = (token.at, token.end)

-- The tokens stand one after the other between these two places, and none of them is empty.
abbrev pub TokensBetween : ℕ → ℕ → List Token → Type 0
TokensBetween from to tokens = StandBetween from to (map stretch_of tokens)

-- It isn't empty and lies between these two places.
abbrev pub TokenBetween : ℕ → ℕ → Token → Type 0
TokenBetween from to token = LiesBetween from to (stretch_of token)

-- The text has tokens, or this is the first reason why it has none.
abbrev pub HasTokens : Result (Unit {0}) LexFault → Lexed → Type 0
HasTokens (Ok done) lexed = (found : List Token) × (lexed ≡ Ok found)
HasTokens (Err e) lexed = lexed ≡ Err e

-- the first of the tokens of a text that begins at this place, and the text after it has the others
abbrev pub IsFirst : ℕ → Bytes → Option Token → Type 0
IsFirst place text None = tokens place text ≡ Ok []
IsFirst place text (Some token) = (more : List Token) × (tokens place text ≡ Ok (token ∷ more)) × (tokens token.end (drop (token.end - place) text) ≡ Ok more) × LiesBetween place (place + length text) (stretch_of token)
