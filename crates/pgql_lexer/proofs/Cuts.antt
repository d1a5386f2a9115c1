-- A text as what stands at its front, and the text after that.
use Rattle.std.proofs.Common.{◌≡◌, ◌≤◌, ℕ, zero, suc, ◌+◌, ◌-◌, Bool, true, false, cond, List, [], ◌∷◌, ◌++◌, map, take, drop, length, length-drop, Option, Some, None, Ok, Err, refl, sym, ap, ◌∙◌, subst, arith}
use Rattle.std.specs.Prelude.{nat_lt, slice_index, unwrap_or, if◌then◌else◌}
use Rattle.std.specs.Char.{is_ascii_digit}
use Rattle.std.specs.List.{prefix_len}
use Rattle.std.specs.Str.Lossy.{utf8_valid_len}
use Rattle.std.proofs.lemmas.Bool.Decides.{nat_tests}
use Rattle.pgql_lexer.specs.declared.token.Token.{Token}
use Rattle.pgql_lexer.specs.declared.token.TokenKind.TheVariants.{Number, Text}
use Rattle.pgql_lexer.specs.declared.fronts.Front.{Front}
use Rattle.pgql_lexer.specs.declared.fronts.Front.TheVariants as front
use Rattle.pgql_lexer.specs.declared.pieces.Mark.{Mark}
use Rattle.pgql_lexer.specs.declared.pieces.Mark.TheVariants as mark
use Rattle.pgql_lexer.specs.Fronts.{Bytes, is_space, begins_word, is_word_byte, is_quote, opens_comment, is_pair, is_symbol, value_after, most_number, comment_end, comment_to, literal_end, literal_to, number_of, front_of}
use Rattle.pgql_lexer.specs.Pieces.{is_semicolon, comment_marked, marked_front, marks_from}
use Rattle.pgql_lexer.specs.Tokens.{Lexed, with_front, lexed_after, tokens_from, tokens}
use Rattle.pgql_lexer.specs.Laws.{AreTokens, no_more, gap, token, TokensCutTheText, AreMarks, no_bytes, stretch, MarksCutTheText}
use Rattle.pgql_lexer.proofs.Ends.{closed_there, closed_so}
use Rattle.pgql_lexer.proofs.Scanning.{behind}

-- ---- what stands at a front has some bytes

abbrev Moves : Front → Type 0
Moves (front.Gap count) = 1 ≤ count
Moves (front.Whole kind count) = 1 ≤ count
Moves other = Unit {0}

by_test : {A : Type 0} (P : A → Type 0) (b : Bool) (x y : A) → (b ≡ true → P x) → (b ≡ false → P y) → P (if b then x else y)
by_test P true x y f g = f refl
by_test P false x y f g = g refl

some_pass : (p : ℕ → Bool) (b : ℕ) (z : Bytes) → p b ≡ true → 1 ≤ prefix_len p (b ∷ z)
some_pass p b z is = let same : prefix_len p (b ∷ z) ≡ 1 + prefix_len p z = ap (λ q. cond q (1 + prefix_len p z) 0) is in omega arith

word_begins : (b : ℕ) → begins_word b ≡ true → is_word_byte b ≡ true
word_begins b e = grind (arith, nat_tests)

number_moves : (b : ℕ) (z : Bytes) → is_ascii_digit b ≡ true → Moves (number_of (b ∷ z))
number_moves b z is =
    by_test Moves (nat_lt most_number (value_after 0 (take (prefix_len is_ascii_digit (b ∷ z)) (b ∷ z)))) front.WideNumber (front.Whole Number (prefix_len is_ascii_digit (b ∷ z))) (λ _. tt)
    (λ _. some_pass is_ascii_digit b z is)

literal_moves : (text z : Bytes) (o : Option ℕ) → literal_end false 1 z ≡ o → Moves (literal_to text o)
literal_moves text z None is = tt
literal_moves text z (Some end) is =
    let w = closed_so 1 z end is in
    by_test Moves (nat_lt (utf8_valid_len (take end text)) end) (front.BadCharacter (utf8_valid_len (take end text))) (front.Whole Text end) (λ _. tt)
    (λ _. let same = w.3 in omega arith)

comment_moves : (z : Bytes) (o : Option ℕ) → comment_end 2 z ≡ o → Moves (comment_to o)
comment_moves z None is = tt
comment_moves z (Some end) is = let w = closed_there 2 z end is in let same = w.2 in omega arith

front_moves : (b : ℕ) (z : Bytes) → Moves (front_of (b ∷ z))
unfolding front_of
front_moves b z =
    by_test Moves (is_space b) _ _ (λ _. omega arith)
    (λ _. by_test Moves (begins_word b) _ _ (λ is. some_pass is_word_byte b z (word_begins b is))
    (λ _. by_test Moves (is_ascii_digit b) _ _ (λ is. number_moves b z is)
    (λ _. by_test Moves (is_quote b) _ _ (λ _. literal_moves (b ∷ z) (drop 1 (b ∷ z)) (literal_end false 1 (drop 1 (b ∷ z))) refl)
    (λ _. by_test Moves (opens_comment b (slice_index (b ∷ z) 1)) _ _ (λ _. comment_moves (drop 2 (b ∷ z)) (comment_end 2 (drop 2 (b ∷ z))) refl)
    (λ _. by_test Moves (is_pair b (slice_index (b ∷ z) 1)) _ _ (λ _. omega arith)
    (λ _. by_test Moves (is_symbol b) _ _ (λ _. omega arith) (λ _. tt)))))))

-- ---- tokens

list_of : Lexed → List Token
list_of (Ok ts) = ts
list_of (Err e) = []

same_list : (ts us : List Token) → ◌≡◌ {A = Lexed} (Ok ts) (Ok us) → ts ≡ us
unfolding list_of
same_list ts us e = ap list_of e

parts : (t : Token) (o : Lexed) (ts : List Token) → with_front (t ∷ []) o ≡ Ok ts → (us : List Token) × (o ≡ Ok us) × (t ∷ us ≡ ts)
parts t (Ok us) ts e = (us, refl, same_list (t ∷ us) ts e)
parts t (Err f) ts e = absurd cc

smaller : (n count : ℕ) (b : ℕ) (z : Bytes) → length (b ∷ z) ≤ suc n → 1 ≤ count → length (drop count (b ∷ z)) ≤ n
smaller n count b z le some = omega (arith, length-drop count (b ∷ z))

cut : (n place : ℕ) (text : Bytes) (ts : List Token) → length text ≤ n → tokens_from 0 place text ≡ Ok ts → AreTokens place text ts
cut n place [] ts le e = subst (λ us. AreTokens place [] us) (same_list [] ts e) no_more
cut zero place (b ∷ z) ts le e = absurd (omega arith)
cut (suc n) place (b ∷ z) ts le e =
    by_front (λ count some us f. cut n (place + count) (drop count (b ∷ z)) us (smaller n count b z le some) (sym (behind count place (b ∷ z) some) ∙ f)) (front_of (b ∷ z)) refl (front_moves b z) e
  where
    by_front : ((count : ℕ) → 1 ≤ count → (us : List Token) → tokens_from (count - 1) (place + 1) z ≡ Ok us → AreTokens (place + count) (drop count (b ∷ z)) us)
        → (f : Front) → front_of (b ∷ z) ≡ f → Moves f → lexed_after f place (λ passed. tokens_from passed (place + 1) z) ≡ Ok ts → AreTokens place (b ∷ z) ts
    by_front go (front.Gap count) is some e = gap count is (go count some ts e)
    by_front go (front.Whole kind count) is some e =
        let w = parts (record { kind = kind; at = place; end = place + count }) (tokens_from (count - 1) (place + 1) z) ts e in
        subst (λ us. AreTokens place (b ∷ z) us) w.2 (token kind count is (go count some w.0 w.1))
    by_front go (front.BadCharacter count) is some e = absurd cc
    by_front go front.OpenText is some e = absurd cc
    by_front go front.OpenComment is some e = absurd cc
    by_front go front.WideNumber is some e = absurd cc

joined : {place : ℕ} {text : Bytes} {ts : List Token} → AreTokens place text ts → tokens_from 0 place text ≡ Ok ts
joined no_more = refl
joined {place = place} (gap {byte = b} {more = z} count is d) =
    ap (λ f. lexed_after f place (λ passed. tokens_from passed (place + 1) z)) is ∙ behind count place (b ∷ z) (subst Moves is (front_moves b z)) ∙ joined d
joined {place = place} (token {byte = b} {more = z} kind count is d) =
    ap (λ f. lexed_after f place (λ passed. tokens_from passed (place + 1) z)) is
    ∙ ap (with_front (record { kind = kind; at = place; end = place + count } ∷ [])) (behind count place (b ∷ z) (subst Moves is (front_moves b z)) ∙ joined d)

pub tokens_cut : TokensCutTheText
unfolding tokens
tokens_cut place text ts = (λ e. cut (length text) place text ts (omega arith) e, λ d. joined d)

-- ---- marks

comment_some : (text z : Bytes) (o : Option ℕ) → 1 ≤ length text → comment_end 2 z ≡ o → 1 ≤ (comment_marked text o).1
comment_some text z None long is = long
comment_some text z (Some end) long is = let w = closed_there 2 z end is in let same = w.2 in omega arith

literal_some : (text z : Bytes) (o : Option ℕ) → 1 ≤ length text → literal_end false 1 z ≡ o → 1 ≤ unwrap_or o (length text)
literal_some text z None long is = long
literal_some text z (Some end) long is = let w = closed_so 1 z end is in let same = w.3 in omega arith

abbrev Some_bytes : Mark × ℕ → Type 0
Some_bytes m = 1 ≤ m.1

marked_some : (b : ℕ) (z : Bytes) → Some_bytes (marked_front (b ∷ z))
unfolding marked_front
marked_some b z =
    by_test Some_bytes (is_semicolon b) _ _ (λ _. omega arith)
    (λ _. by_test Some_bytes (is_space b) _ _ (λ _. omega arith)
    (λ _. by_test Some_bytes (is_quote b) _ _ (λ _. literal_some (b ∷ z) (drop 1 (b ∷ z)) (literal_end false 1 (drop 1 (b ∷ z))) (omega arith) refl)
    (λ _. by_test Some_bytes (opens_comment b (slice_index (b ∷ z) 1)) _ _ (λ _. comment_some (b ∷ z) (drop 2 (b ∷ z)) (comment_end 2 (drop 2 (b ∷ z))) (omega arith) refl) (λ _. omega arith))))

-- the marks of the bytes after those that are passed over
from_zero : (m n : Mark) (z : Bytes) → marks_from m 0 z ≡ marks_from n 0 z
from_zero m n [] = refl
from_zero m n (b ∷ z) = refl

passed_marks : (m : Mark) (passed : ℕ) (z : Bytes) → marks_from m passed z ≡ map (λ b. m) (take passed z) ++ marks_from mark.Blank 0 (drop passed z)
passed_marks m zero z = from_zero m mark.Blank z
passed_marks m (suc passed) [] = refl
passed_marks m (suc passed) (b ∷ z) = ap (λ ms. m ∷ ms) (passed_marks m passed z)

first_stretch : (b : ℕ) (z : Bytes) (m : Mark) (count : ℕ) → marked_front (b ∷ z) ≡ (m, count) → 1 ≤ count
    → marks_from mark.Blank 0 (b ∷ z) ≡ map (λ b. m) (take count (b ∷ z)) ++ marks_from mark.Blank 0 (drop count (b ∷ z))
first_stretch b z m zero is some = absurd (omega arith)
first_stretch b z m (suc count) is some =
    let size : suc count - 1 ≡ count = omega arith in
    ap (λ f. f.0 ∷ marks_from f.0 (f.1 - 1) z) is ∙ ap (λ n. m ∷ marks_from m n z) size ∙ ap (λ ms. m ∷ ms) (passed_marks m count z)

marked : (n : ℕ) (text : Bytes) → length text ≤ n → AreMarks text (marks_from mark.Blank 0 text)
marked n [] le = no_bytes
marked zero (b ∷ z) le = absurd (omega arith)
marked (suc n) (b ∷ z) le =
    let f = marked_front (b ∷ z) in
    let some = marked_some b z in
    subst (λ ms. AreMarks (b ∷ z) ms) (sym (first_stretch b z f.0 f.1 refl some)) (stretch f.0 f.1 refl (marked n (drop f.1 (b ∷ z)) (smaller n f.1 b z le some)))

unmarked : {text : Bytes} {ms : List Mark} → AreMarks text ms → marks_from mark.Blank 0 text ≡ ms
unmarked no_bytes = refl
unmarked (stretch {byte = b} {more = z} m count is d) =
    first_stretch b z m count is (subst Some_bytes is (marked_some b z)) ∙ ap (λ ms. map (λ b. m) (take count (b ∷ z)) ++ ms) (unmarked d)

pub marks_cut : MarksCutTheText
marks_cut text ms = (λ e. subst (λ us. AreMarks text us) e (marked (length text) text (omega arith)), λ d. unmarked d)
