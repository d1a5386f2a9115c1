-- Where comments and literals end, and how a text is cut into tokens and a file into queries, as relations.
use Rattle.std.specs.Prelude.{◌≡◌, ◌↔◌, ◌<◌, ℕ, ◌+◌, true, false, List, [], ◌∷◌, ◌++◌, length, map, take, drop, slice_index, Some, Ok}
use Rattle.pgql_lexer.specs.declared.token.Token.{Token}
use Rattle.pgql_lexer.specs.declared.token.TokenKind.{TokenKind}
use Rattle.pgql_lexer.specs.declared.fronts.Front.TheVariants as front
use Rattle.pgql_lexer.specs.declared.pieces.Mark.{Mark}
use Rattle.pgql_lexer.specs.Fronts.{Bytes, is_quote, closes_comment, comment_end, literal_end, front_of}
use Rattle.pgql_lexer.specs.Tokens.{tokens}
use Rattle.pgql_lexer.specs.Pieces.{marked_front, marks}

-- ---- comments

-- `*/` stands at this place
abbrev pub ClosesAt : Bytes → ℕ → Type 0
ClosesAt content place = closes_comment (slice_index content place) (slice_index content (place + 1)) ≡ true

-- the first `*/` stands at this place
pub record IsFirstClose (content : Bytes) (place : ℕ) : Type 0 where
  pub closes : ClosesAt content place
  pub first : (earlier : ℕ) → earlier < place → ClosesAt content earlier → ⊥

-- A comment ends after the first `*/` that stands after its `/*`.
abbrev pub CommentsEndAtTheFirstClose : Type 0
CommentsEndAtTheFirstClose = (content : Bytes) (end : ℕ) → (comment_end 2 content ≡ Some end) ↔ ((place : ℕ) × IsFirstClose content place × (end ≡ place + 4))

-- ---- literals

-- bytes that are no quote, and quotes by twos
pub data IsContent : Bytes → Type 0 where
  nothing : IsContent []
  plain : (byte : ℕ) (more : Bytes) → is_quote byte ≡ false → IsContent more → IsContent (byte ∷ more)
  doubled : (more : Bytes) → IsContent more → IsContent (39 ∷ 39 ∷ more)

-- The content is followed by a quote that isn't doubled, and then by the rest.
pub record IsClosed (text content rest : Bytes) : Type 0 where
  pub parts : text ≡ content ++ 39 ∷ rest
  pub is_content : IsContent content
  pub alone : is_quote (slice_index rest 0) ≡ false

-- A literal ends after the first quote that isn't doubled.
abbrev pub LiteralsEndAtTheFirstLoneQuote : Type 0
LiteralsEndAtTheFirstLoneQuote = (text : Bytes) (end : ℕ) → (literal_end false 1 text ≡ Some end) ↔ ((content rest : Bytes) × IsClosed text content rest × (end ≡ length content + 2))

-- ---- tokens

-- The text is cut into gaps and these tokens, each as long as what stands at the front of the rest.
pub data AreTokens : ℕ → Bytes → List Token → Type 0 where
  no_more : {place : ℕ} → AreTokens place [] []
  gap : {place byte : ℕ} {more : Bytes} {ts : List Token} (count : ℕ) → front_of (byte ∷ more) ≡ front.Gap count → AreTokens (place + count) (drop count (byte ∷ more)) ts → AreTokens place (byte ∷ more) ts
  token : {place byte : ℕ} {more : Bytes} {ts : List Token} (kind : TokenKind) (count : ℕ) → front_of (byte ∷ more) ≡ front.Whole kind count
      → AreTokens (place + count) (drop count (byte ∷ more)) ts → AreTokens place (byte ∷ more) (record { kind = kind; at = place; end = place + count } ∷ ts)

-- A text has those tokens into which it is cut.
abbrev pub TokensCutTheText : Type 0
TokensCutTheText = (place : ℕ) (text : Bytes) (ts : List Token) → (tokens place text ≡ Ok ts) ↔ AreTokens place text ts

-- ---- the marks by which a file is cut into queries

-- The text is cut into stretches, each as long as what stands at the front of the rest, and its bytes have that mark.
pub data AreMarks : Bytes → List Mark → Type 0 where
  no_bytes : AreMarks [] []
  stretch : {byte : ℕ} {more : Bytes} {ms : List Mark} (mark : Mark) (count : ℕ) → marked_front (byte ∷ more) ≡ (mark, count) → AreMarks (drop count (byte ∷ more)) ms
      → AreMarks (byte ∷ more) (map (λ b. mark) (take count (byte ∷ more)) ++ ms)

-- The bytes of a file have those marks.
abbrev pub MarksCutTheText : Type 0
MarksCutTheText = (text : Bytes) (ms : List Mark) → (marks text ≡ ms) ↔ AreMarks text ms
