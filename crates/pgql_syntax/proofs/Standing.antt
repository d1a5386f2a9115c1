-- Words, numbers and symbols as tokens of a text.
use Rattle.std.proofs.Common.{◌≡◌, ℕ, suc, ◌+◌, ◌-◌, ◌*◌, ◌≤◌, ◌<◌, ◌^◌, Bool, true, false, List, [], ◌∷◌, ◌++◌, length, take, refl, sym, ap, ◌∙◌, subst, arith}
use Rattle.std.proofs.lemmas.Bool.Decides.{nat_tests}
use Rattle.std.proofs.lemmas.Str.Parse.{IsNumeralModel, FoldsDigits, numerals_by_fold, tells_digits}
use Rattle.std.proofs.lemmas.Fmt.{digits_decimal, digits_value-decimal, decimal_is_IsNumeral}
use Rattle.std.proofs.Math.Seq.{take-append_seam}
use Rattle.std.specs.Prelude.{codes, nat_lt, if◌then◌else◌, slice_index}
use Rattle.std.specs.Char.{is_ascii_digit}
use Rattle.std.specs.Fmt.{decimal}
use Rattle.std.specs.List.{prefix_len}
use Rattle.std.specs.Str.Parse.{AllDigits}
use Rattle.pgql_lexer.specs.declared.token.TokenKind.TheVariants as token
use Rattle.pgql_lexer.specs.declared.fronts.Front.TheVariants as front
use Rattle.pgql_lexer.specs.Fronts.{is_space, begins_word, is_word_byte, opens_comment, is_pair, value_after, most_number, number_of, front_of}
use Rattle.pgql_lexemes.specs.declared.kind.Kind.TheVariants as k
use Rattle.pgql_lexemes.specs.Seen.{word_kind, symbol_kind}
use Rattle.pgql_syntax.proofs.Lexing.{parts, parts_first, any_text, IsLexed, one_token}

pub if_true : {A : Type 0} (b : Bool) (x y : A) → b ≡ true → (if b then x else y) ≡ x
if_true true x y e = refl
if_true false x y e = absurd cc

pub if_false : {A : Type 0} (b : Bool) (x y : A) → b ≡ false → (if b then x else y) ≡ y
if_false true x y e = absurd cc
if_false false x y e = refl

-- all of a text, and nothing of what follows
pub prefix_is : (p : ℕ → Bool) (w rest : List ℕ) → prefix_len p w ≡ length w → prefix_len p rest ≡ 0 → prefix_len p (w ++ rest) ≡ length w
prefix_is p [] rest e f = f
prefix_is p (b ∷ z) rest e f = by_test (p b) refl (λ inner. prefix_is p z rest inner f)
  where
    short : (n m : ℕ) → 0 ≡ suc n → ⊥
    short n m e = omega arith

    by_test : (t : Bool) → p b ≡ t → (prefix_len p z ≡ length z → prefix_len p (z ++ rest) ≡ length z) → prefix_len p (b ∷ z ++ rest) ≡ suc (length z)
    by_test true q more =
        let this : prefix_len p (b ∷ z) ≡ 1 + prefix_len p z = rw q in
        let inner : prefix_len p z ≡ length z = omega arith in
        let that : prefix_len p (b ∷ z ++ rest) ≡ 1 + prefix_len p (z ++ rest) = rw q in
        let so = more inner in
        omega arith
    by_test false q more =
        let this : prefix_len p (b ∷ z) ≡ 0 = rw q in
        absurd (short (length z) 0 (sym this ∙ e))

-- ---- words

-- letters, digits and `_`, of which the first is no digit
pub record IsWord (w : List ℕ) : Type 0 where
  pub begins : begins_word (slice_index w 0) ≡ true
  pub whole : prefix_len is_word_byte w ≡ length w

word_no_space : (b : ℕ) → begins_word b ≡ true → is_space b ≡ false
word_no_space b e = grind (arith, nat_tests)

pub front_word : (text : List ℕ) → begins_word (slice_index text 0) ≡ true → front_of text ≡ front.Whole token.Word (prefix_len is_word_byte text)
unfolding front_of
front_word text e = if_false (is_space (slice_index text 0)) _ _ (word_no_space (slice_index text 0) e) ∙ if_true (begins_word (slice_index text 0)) _ _ e

parts_no_word : (b : ℕ) → parts b ≡ true → is_word_byte b ≡ false
parts_no_word b e = by_test (is_word_byte b) refl
  where
    by_test : (t : Bool) → is_word_byte b ≡ t → is_word_byte b ≡ false
    by_test false q = q
    by_test true q =
        let no : parts b ≡ false = rw q in
        absurd cc

no_prefix : (p : ℕ → Bool) (rest : List ℕ) → ((b : ℕ) → parts b ≡ true → p b ≡ false) → parts_first rest ≡ true → prefix_len p rest ≡ 0
no_prefix p [] none e = refl
no_prefix p (b ∷ z) none e = let no = none b e in rw no

pub word_lexed : (w : List ℕ) → IsWord w → IsLexed parts_first w ((word_kind w, w) ∷ [])
word_lexed [] is = let e : begins_word 0 ≡ true = is.begins in absurd cc
word_lexed (b ∷ z) is = one_token token.Word b z (λ rest e.
    front_word (b ∷ z ++ rest) is.begins ∙ ap (λ n. front.Whole token.Word n) (prefix_is is_word_byte (b ∷ z) rest is.whole (no_prefix is_word_byte rest parts_no_word e)))

-- ---- numbers

digit_no_space : (b : ℕ) → is_ascii_digit b ≡ true → is_space b ≡ false
digit_no_space b e = grind (arith, nat_tests)

digit_no_word : (b : ℕ) → is_ascii_digit b ≡ true → begins_word b ≡ false
digit_no_word b e = grind (arith, nat_tests)

no_word_no_digit : (b : ℕ) → is_word_byte b ≡ false → is_ascii_digit b ≡ false
no_word_no_digit b e = grind (arith, nat_tests)

not_wide : (n : ℕ) → n < 2 ^ 63 → nat_lt most_number n ≡ false
not_wide n e = grind (arith, nat_tests)

front_number : (text : List ℕ) → is_ascii_digit (slice_index text 0) ≡ true → front_of text ≡ number_of text
unfolding front_of
front_number text e =
    if_false (is_space (slice_index text 0)) _ _ (digit_no_space (slice_index text 0) e)
    ∙ if_false (begins_word (slice_index text 0)) _ _ (digit_no_word (slice_index text 0) e) ∙ if_true (is_ascii_digit (slice_index text 0)) _ _ e

number_is : (text digits : List ℕ) → prefix_len is_ascii_digit text ≡ length digits → take (length digits) text ≡ digits → value_after 0 digits < 2 ^ 63 → number_of text ≡ front.Whole token.Number (length digits)
number_is text digits e t small =
    ap (λ n. if nat_lt most_number (value_after 0 (take n text)) then front.WideNumber else front.Whole token.Number n) e
    ∙ if_false (nat_lt most_number (value_after 0 (take (length digits) text))) _ _ (ap (λ z. nat_lt most_number (value_after 0 z)) t ∙ not_wide (value_after 0 digits) small)

digits_lexed : (w : List ℕ) → 0 < length w → prefix_len is_ascii_digit w ≡ length w → value_after 0 w < 2 ^ 63 → IsLexed parts_first w ((k.Number, w) ∷ [])
digits_lexed [] some all small = absurd (omega arith)
digits_lexed (b ∷ z) some all small = one_token token.Number b z (λ rest e.
    front_number (b ∷ z ++ rest) (first_digit b z all)
    ∙ number_is (b ∷ z ++ rest) (b ∷ z) (prefix_is is_ascii_digit (b ∷ z) rest all (no_prefix is_ascii_digit rest (λ c p. no_word_no_digit c (parts_no_word c p)) e)) (take-append_seam (b ∷ z) rest) small)
  where
    none : (n : ℕ) → 0 ≡ suc n → ⊥
    none n e = omega arith

    first_digit : (b : ℕ) (z : List ℕ) → prefix_len is_ascii_digit (b ∷ z) ≡ length (b ∷ z) → is_ascii_digit b ≡ true
    first_digit b z e = by_test (is_ascii_digit b) refl
      where
        by_test : (t : Bool) → is_ascii_digit b ≡ t → is_ascii_digit b ≡ true
        by_test true q = q
        by_test false q = let this : prefix_len is_ascii_digit (b ∷ z) ≡ 0 = rw q in absurd (none (length z) (sym this ∙ e))

folds : FoldsDigits value_after
folds = record {
  empty = λ n. refl;
  more = λ n c cs r. ap (λ m. value_after m cs) (let same : 10 * n + (c - 48) ≡ n * 10 + (c - 48) = omega arith in same);
}

as_numeral : IsNumeralModel (AllDigits 10) (value_after 0)
as_numeral = numerals_by_fold (AllDigits 10) tells_digits value_after folds

in_range : (c : ℕ) → 48 ≤ c → c ≤ 57 → is_ascii_digit c ≡ true
in_range c low high = grind (arith, nat_tests)

all_digits : (ds : List ℕ) → AllDigits 10 ds → prefix_len is_ascii_digit ds ≡ length ds
all_digits [] a = refl
all_digits (c ∷ cs) a =
    let both = tells_digits.parts c cs a in
    let digit = in_range c both.0.0 both.0.1 in
    let more = all_digits cs both.1 in
    let this : prefix_len is_ascii_digit (c ∷ cs) ≡ 1 + prefix_len is_ascii_digit cs = rw digit in
    omega arith

pub decimal_value : (n : ℕ) → n < 2 ^ 63 → value_after 0 (decimal n) ≡ n
decimal_value n small = digits_value-decimal as_numeral n (omega arith)

pub decimal_lexed : (n : ℕ) → n < 2 ^ 63 → IsLexed parts_first (decimal n) ((k.Number, decimal n) ∷ [])
decimal_lexed n small =
    let wide : n < 2 ^ 64 = omega arith in
    let P : ℕ → Type 0 = λ v. v < 2 ^ 63 in
    digits_lexed (decimal n) (decimal_is_IsNumeral n wide).0.0 (all_digits (decimal n) (digits_decimal as_numeral n wide)) (subst P (sym (decimal_value n small)) small)

-- ---- symbols

-- `( ) [ ] , : . | + - * % =`
pub free_symbol : (b : ℕ) → ((rest : List ℕ) → front_of (b ∷ rest) ≡ front.Whole token.Symbol 1) → IsLexed any_text (b ∷ []) ((symbol_kind (b ∷ []), b ∷ []) ∷ [])
free_symbol b stays = one_token token.Symbol b [] (λ rest e. stays rest)

-- `<`, `>` and `/`
pub parted_symbol : (b : ℕ) → ((rest : List ℕ) → parts_first rest ≡ true → front_of (b ∷ rest) ≡ front.Whole token.Symbol 1) → IsLexed parts_first (b ∷ []) ((symbol_kind (b ∷ []), b ∷ []) ∷ [])
parted_symbol b stays = one_token token.Symbol b [] stays

-- `<>`, `<=` and `>=`
pub pair_symbol : (b c : ℕ) → ((rest : List ℕ) → front_of (b ∷ c ∷ rest) ≡ front.Whole token.Symbol 2) → IsLexed any_text (b ∷ c ∷ []) ((symbol_kind (b ∷ c ∷ []), b ∷ c ∷ []) ∷ [])
pair_symbol b c stays = one_token token.Symbol b (c ∷ []) (λ rest e. stays rest)

less_stays : (rest : List ℕ) → parts_first rest ≡ true → front_of (60 ∷ rest) ≡ front.Whole token.Symbol 1
unfolding front_of
less_stays [] e = refl
less_stays (c ∷ z) e = if_false (is_pair 60 c) _ _ (no_pair c e)
  where
    no_pair : (c : ℕ) → parts c ≡ true → is_pair 60 c ≡ false
    no_pair c e = grind (arith, nat_tests)

greater_stays : (rest : List ℕ) → parts_first rest ≡ true → front_of (62 ∷ rest) ≡ front.Whole token.Symbol 1
unfolding front_of
greater_stays [] e = refl
greater_stays (c ∷ z) e = if_false (is_pair 62 c) _ _ (no_pair c e)
  where
    no_pair : (c : ℕ) → parts c ≡ true → is_pair 62 c ≡ false
    no_pair c e = grind (arith, nat_tests)

slash_stays : (rest : List ℕ) → parts_first rest ≡ true → front_of (47 ∷ rest) ≡ front.Whole token.Symbol 1
unfolding front_of
slash_stays [] e = refl
slash_stays (c ∷ z) e = if_false (opens_comment 47 c) _ _ (no_comment c e)
  where
    no_comment : (c : ℕ) → parts c ≡ true → opens_comment 47 c ≡ false
    no_comment c e = grind (arith, nat_tests)

pub open_lexed : IsLexed any_text (codes "(") ((k.Open, codes "(") ∷ [])
unfolding front_of symbol_kind
open_lexed = free_symbol 40 (λ rest. refl)

pub close_lexed : IsLexed any_text (codes ")") ((k.Close, codes ")") ∷ [])
unfolding front_of symbol_kind
close_lexed = free_symbol 41 (λ rest. refl)

pub open_bracket_lexed : IsLexed any_text (codes "[") ((k.OpenBracket, codes "[") ∷ [])
unfolding front_of symbol_kind
open_bracket_lexed = free_symbol 91 (λ rest. refl)

pub close_bracket_lexed : IsLexed any_text (codes "]") ((k.CloseBracket, codes "]") ∷ [])
unfolding front_of symbol_kind
close_bracket_lexed = free_symbol 93 (λ rest. refl)

pub comma_lexed : IsLexed any_text (codes ",") ((k.Comma, codes ",") ∷ [])
unfolding front_of symbol_kind
comma_lexed = free_symbol 44 (λ rest. refl)

pub colon_lexed : IsLexed any_text (codes ":") ((k.Colon, codes ":") ∷ [])
unfolding front_of symbol_kind
colon_lexed = free_symbol 58 (λ rest. refl)

pub dot_lexed : IsLexed any_text (codes ".") ((k.Dot, codes ".") ∷ [])
unfolding front_of symbol_kind
dot_lexed = free_symbol 46 (λ rest. refl)

pub bar_lexed : IsLexed any_text (codes "|") ((k.Bar, codes "|") ∷ [])
unfolding front_of symbol_kind
bar_lexed = free_symbol 124 (λ rest. refl)

pub plus_lexed : IsLexed any_text (codes "+") ((k.Plus, codes "+") ∷ [])
unfolding front_of symbol_kind
plus_lexed = free_symbol 43 (λ rest. refl)

pub minus_lexed : IsLexed any_text (codes "-") ((k.Minus, codes "-") ∷ [])
unfolding front_of symbol_kind
minus_lexed = free_symbol 45 (λ rest. refl)

pub star_lexed : IsLexed any_text (codes "*") ((k.Star, codes "*") ∷ [])
unfolding front_of symbol_kind
star_lexed = free_symbol 42 (λ rest. refl)

pub percent_lexed : IsLexed any_text (codes "%") ((k.Percent, codes "%") ∷ [])
unfolding front_of symbol_kind
percent_lexed = free_symbol 37 (λ rest. refl)

pub equal_lexed : IsLexed any_text (codes "=") ((k.Equal, codes "=") ∷ [])
unfolding front_of symbol_kind
equal_lexed = free_symbol 61 (λ rest. refl)

pub unequal_lexed : IsLexed any_text (codes "<>") ((k.Unequal, codes "<>") ∷ [])
unfolding front_of symbol_kind
unequal_lexed = pair_symbol 60 62 (λ rest. refl)

pub less_equal_lexed : IsLexed any_text (codes "<=") ((k.LessEqual, codes "<=") ∷ [])
unfolding front_of symbol_kind
less_equal_lexed = pair_symbol 60 61 (λ rest. refl)

pub greater_equal_lexed : IsLexed any_text (codes ">=") ((k.GreaterEqual, codes ">=") ∷ [])
unfolding front_of symbol_kind
greater_equal_lexed = pair_symbol 62 61 (λ rest. refl)

pub less_lexed : IsLexed parts_first (codes "<") ((k.Less, codes "<") ∷ [])
unfolding symbol_kind
less_lexed = parted_symbol 60 less_stays

pub greater_lexed : IsLexed parts_first (codes ">") ((k.Greater, codes ">") ∷ [])
unfolding symbol_kind
greater_lexed = parted_symbol 62 greater_stays

pub slash_lexed : IsLexed parts_first (codes "/") ((k.Slash, codes "/") ∷ [])
unfolding symbol_kind
slash_lexed = parted_symbol 47 slash_stays
