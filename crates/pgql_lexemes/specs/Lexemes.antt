-- Tokens as the grammar sees them.
use Rattle.std.specs.Prelude.{◌≡◌, ◌<◌, ◌≤◌, ◌^◌, ℕ, ◌-◌, Bool, true, false, ◌&&◌, ◌==◌, List, [], ◌∷◌, length, take, drop, slice_index, codes}
use Rattle.std.specs.Str.{IsUtf8, str_eq_ignore_ascii_case}
use Rattle.pgql_lexer.specs.Fronts.{value_after}
use Rattle.pgql_tree.specs.declared.ast.Placed.{Placed}
use Rattle.pgql_lexemes.specs.declared.kind.Kind.{Kind}
use Rattle.pgql_lexemes.specs.declared.kind.Kind.TheVariants as k
pub use Rattle.pgql_lexemes.specs.Words.{is_word}

-- a token: its kind, the bytes that are written, and the place of the first
pub record Lexeme : Type 0 where
  pub kind : Kind
  pub bytes : List ℕ
  pub at : ℕ

-- the value of a number
abbrev pub value_of : Lexeme → ℕ
value_of t = value_after 0 t.bytes

-- two quotes stand for one
abbrev pub undoubled : Bool → List ℕ → List ℕ
undoubled is_second [] = []
undoubled true (b ∷ z) = undoubled false z
undoubled false (b ∷ z) = b ∷ undoubled (b == 39 && slice_index z 0 == 39) z

-- what stands between the quotes
abbrev pub content_of : Lexeme → List ℕ
content_of t = undoubled false (take (length t.bytes - 2) (drop 1 t.bytes))

abbrev pub is_id : Lexeme → Bool
is_id t = str_eq_ignore_ascii_case t.bytes (codes "id")

abbrev pub is_label : Lexeme → Bool
is_label t = str_eq_ignore_ascii_case t.bytes (codes "label")

-- the word as a name with its place
abbrev pub placed : Lexeme → Placed
placed t = record { name = t.bytes; at = t.at }

-- the place of the first token
abbrev pub place : List Lexeme → ℕ
place [] = 0
place (t ∷ ts) = t.at

-- What is known of a token of a text: a word is ASCII, a number is within i64, a literal has its quotes.
pub record IsToken (t : Lexeme) : Type 0 where
  pub word : is_word t.kind ≡ true → IsUtf8 t.bytes
  pub number : t.kind ≡ k.Number → value_of t < 2 ^ 63
  pub literal : t.kind ≡ k.Text → 2 ≤ length t.bytes
