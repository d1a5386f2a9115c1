-- What stands at the front of a text that isn't empty.
use Rattle.std.specs.Prelude.{◌≤◌, ◌<◌, ℕ, ◌+◌, ◌-◌, ◌*◌, Bool, true, false, not, ◌&&◌, ◌||◌, if◌then◌else◌, ◌==◌, nat_lt, List, [], ◌∷◌, take, drop, slice_index, Option, Some, None}
use Rattle.std.specs.Char.{is_ascii_digit, is_ascii_alphabetic, is_ascii_alphanumeric}
use Rattle.std.specs.List.{prefix_len}
use Rattle.std.specs.Str.Lossy.{utf8_valid_len}
use Rattle.pgql_lexer.specs.declared.token.TokenKind.TheVariants.{Word, Number, Text, Symbol}
use Rattle.pgql_lexer.specs.declared.fronts.Front.{Front}
use Rattle.pgql_lexer.specs.declared.fronts.Front.TheVariants as front

abbrev pub Bytes : Type 0
Bytes = List ℕ

-- space, tab, carriage return and line feed
abbrev pub is_space : ℕ → Bool
is_space byte = byte == 32 || byte == 9 || byte == 13 || byte == 10

-- letters and `_`
abbrev pub begins_word : ℕ → Bool
begins_word byte = is_ascii_alphabetic byte || byte == 95

-- letters, digits and `_`
abbrev pub is_word_byte : ℕ → Bool
is_word_byte byte = is_ascii_alphanumeric byte || byte == 95

-- `'`
abbrev pub is_quote : ℕ → Bool
is_quote byte = byte == 39

-- `/*`
abbrev pub opens_comment : ℕ → ℕ → Bool
opens_comment byte next = byte == 47 && next == 42

-- `*/`
abbrev pub closes_comment : ℕ → ℕ → Bool
closes_comment byte next = byte == 42 && next == 47

-- `( ) [ ] , : . | + - * / % = < >`
abbrev pub is_symbol : ℕ → Bool
is_symbol byte = byte == 40 || byte == 41 || byte == 91 || byte == 93 || byte == 44 || byte == 58 || byte == 46 || byte == 124 || byte == 43 || byte == 45 || byte == 42 || byte == 47 || byte == 37 || byte == 61 || byte == 60 || byte == 62

-- `<>`, `<=` or `>=`
abbrev pub is_pair : ℕ → ℕ → Bool
is_pair byte next = (byte == 60 && (next == 62 || next == 61)) || (byte == 62 && next == 61)

-- the value of decimal digits that come after digits of this value
abbrev pub value_after : ℕ → Bytes → ℕ
value_after value [] = value
value_after value (digit ∷ digits) = value_after (10 * value + (digit - 48)) digits

abbrev pub most_number : ℕ
most_number = 9223372036854775807

-- The place after the closing quote of a literal, whose content goes on here, from this place on. A doubled
-- quote doesn't close it, and its second quote isn't looked at again.
abbrev pub literal_end : Bool → ℕ → Bytes → Option ℕ
literal_end is_second place [] = None
literal_end true place (byte ∷ bytes) = literal_end false (place + 1) bytes
literal_end false place (byte ∷ bytes) =
    if is_quote byte && not (is_quote (slice_index bytes 0)) then Some (place + 1)
    else literal_end (is_quote byte) (place + 1) bytes

-- the place after the `*/` of a comment, whose content goes on here, from this place on
abbrev pub comment_end : ℕ → Bytes → Option ℕ
comment_end place [] = None
comment_end place (byte ∷ bytes) =
    if closes_comment byte (slice_index bytes 0) then Some (place + 2) else comment_end (place + 1) bytes

-- a comment that ends there
abbrev pub comment_to : Option ℕ → Front
comment_to None = front.OpenComment
comment_to (Some end) = front.Gap end

-- a literal at the front of the text that ends there
abbrev pub literal_to : Bytes → Option ℕ → Front
literal_to text None = front.OpenText
literal_to text (Some end) =
    let valid = utf8_valid_len (take end text) in
    if nat_lt valid end then front.BadCharacter valid else front.Whole Text end

-- the number at the front of the text
abbrev pub number_of : Bytes → Front
number_of text =
    let end = prefix_len is_ascii_digit text in
    if nat_lt most_number (value_after 0 (take end text)) then front.WideNumber else front.Whole Number end

-- what stands at the front of the text
unfoldable pub front_of : Bytes → Front
front_of text =
    let byte = slice_index text 0 in
    let next = slice_index text 1 in
    if is_space byte then front.Gap 1
    else (if begins_word byte then front.Whole Word (prefix_len is_word_byte text)
    else (if is_ascii_digit byte then number_of text
    else (if is_quote byte then literal_to text (literal_end false 1 (drop 1 text))
    else (if opens_comment byte next then comment_to (comment_end 2 (drop 2 text))
    else (if is_pair byte next then front.Whole Symbol 2
    else (if is_symbol byte then front.Whole Symbol 1
    else front.BadCharacter 0))))))

-- This may stand at the front of a text of this length.
abbrev pub FitsIn : ℕ → Front → Type 0
FitsIn size (front.Gap count) = (1 ≤ count) × (count ≤ size)
FitsIn size (front.Whole kind count) = (1 ≤ count) × (count ≤ size)
FitsIn size (front.BadCharacter count) = count < size
FitsIn size other = Unit {0}
