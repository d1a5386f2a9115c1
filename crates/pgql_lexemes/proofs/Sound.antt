-- The tokens of a text are what their kinds say.
use Rattle.std.proofs.lemmas.List.{length-take-le, get_or-take, get_or_past}
use Rattle.std.proofs.lemmas.List.Sums.{prefix_len-le-length, prefix_len_passes}
use Rattle.std.proofs.Math.Seq.{drop-append_seam}
use Rattle.std.proofs.lemmas.Str.{IsUtf8-from_ascii}
use Rattle.std.proofs.lemmas.Bool.Decides.{nat_tests}
use Rattle.std.proofs.Common.{◌≡◌, ℕ, zero, suc, ◌+◌, ◌-◌, ◌≤◌, ◌<◌, ◌^◌, Bool, true, false, List, [], ◌∷◌, ◌++◌, length, length-append, take, drop, get_or, Option, Some, None, Ok, Err, refl, sym, ap, ◌∙◌, subst, append_assoc, arith}
use Rattle.std.specs.Prelude.{codes, ◌==◌, nat_lt, ◌&&◌, not, slice_index, if◌then◌else◌}
use Rattle.std.specs.Char.{is_ascii_digit}
use Rattle.std.specs.Str.{IsAscii, IsUtf8}
use Rattle.std.specs.Str.Lossy.{utf8_valid_len}
use Rattle.std.specs.List.{prefix_len, AllByRecursion}
use Rattle.pgql_lexer.specs.declared.token.Token.{Token}
use Rattle.pgql_lexer.specs.declared.token.TokenKind.{TokenKind}
use Rattle.pgql_lexer.specs.declared.token.TokenKind.TheVariants as token
use Rattle.pgql_lexer.specs.declared.fronts.Front.{Front}
use Rattle.pgql_lexer.specs.declared.fronts.Front.TheVariants as front
use Rattle.pgql_lexer.specs.Fronts.{is_space, begins_word, is_word_byte, is_quote, opens_comment, is_symbol, is_pair, value_after, most_number, literal_end, comment_to, literal_to, number_of, front_of}
use Rattle.pgql_lexer.specs.Tokens.{Lexed, with_front, lexed_after, tokens_from, tokens}
use Rattle.pgql_lexemes.specs.declared.kind.Kind.{Kind}
use Rattle.pgql_lexemes.specs.declared.kind.Kind.TheVariants as k
use Rattle.pgql_lexemes.specs.Lexemes.{is_word, IsToken}
use Rattle.pgql_lexemes.specs.Seen.{is, clause_word, order_word, logic_word, value_word, first_kind, word_kind, mark_kind, operator_kind, less_kind, greater_kind, symbol_kind, part, seen_as, IsTokenOf}

-- what is known of what stands at the front of a text
pub record Facts (text : List ℕ) (kind : TokenKind) (count : ℕ) : Type 0 where
  pub fits : count ≤ length text
  pub word : kind ≡ token.Word → IsUtf8 (take count text)
  pub number : kind ≡ token.Number → value_after 0 (take count text) < 2 ^ 63
  pub literal : kind ≡ token.Text → 2 ≤ count

abbrev pub Known : List ℕ → Front → Type 0
Known text (front.Whole kind count) = Facts text kind count
Known text other = Unit {0}

by_test : (text : List ℕ) (b : Bool) (x y : Front) → (b ≡ true → Known text x) → (b ≡ false → Known text y) → Known text (if b then x else y)
by_test text true x y f g = f refl
by_test text false x y f g = g refl

below_128 : (c : ℕ) → is_word_byte c ≡ true → c < 128
below_128 c e = grind (arith, nat_tests)

word_ascii : (z : List ℕ) → IsAscii (take (prefix_len is_word_byte z) z)
word_ascii z i = by_bool (nat_lt i (prefix_len is_word_byte z)) refl
  where
    is_below : (i n : ℕ) → nat_lt i n ≡ true → i < n
    is_below i n e = grind (arith, nat_tests)

    is_past : (i n : ℕ) → nat_lt i n ≡ false → n ≤ i
    is_past i n e = grind (arith, nat_tests)

    by_bool : (b : Bool) → nat_lt i (prefix_len is_word_byte z) ≡ b → slice_index (take (prefix_len is_word_byte z) z) i < 128
    by_bool true e =
        let lt = is_below i (prefix_len is_word_byte z) e in
        let P : ℕ → Type 0 = λ v. v < 128 in
        subst P (sym (get_or-take (prefix_len is_word_byte z) z i 0 lt)) (below_128 (get_or z i 0) (prefix_len_passes is_word_byte z i 0 lt))
    by_bool false e =
        let le = is_past i (prefix_len is_word_byte z) e in
        let same = length-take-le (prefix_len is_word_byte z) z (prefix_len-le-length is_word_byte z) in
        let P : ℕ → Type 0 = λ v. v < 128 in
        subst P (sym (get_or_past (take (prefix_len is_word_byte z) z) i 0 (omega arith))) (omega arith)

word_known : (z : List ℕ) → Known z (front.Whole token.Word (prefix_len is_word_byte z))
word_known z = record { fits = prefix_len-le-length is_word_byte z; word = λ e. IsUtf8-from_ascii (take (prefix_len is_word_byte z) z) (word_ascii z); number = λ e. absurd cc; literal = λ e. absurd cc }

within : (n : ℕ) → nat_lt most_number n ≡ false → n < 2 ^ 63
within n e = grind (arith, nat_tests)

number_known : (z : List ℕ) → Known z (number_of z)
number_known z = by_test z (nat_lt most_number (value_after 0 (take (prefix_len is_ascii_digit z) z))) front.WideNumber (front.Whole token.Number (prefix_len is_ascii_digit z)) (λ e. tt)
    (λ e. record { fits = prefix_len-le-length is_ascii_digit z; word = λ e. absurd cc; number = λ _. within (value_after 0 (take (prefix_len is_ascii_digit z) z)) e; literal = λ e. absurd cc })

abbrev EndsWithin : ℕ → ℕ → Option ℕ → Type 0
EndsWithin from to None = Unit {0}
EndsWithin from to (Some end) = (from < end) × (end ≤ to)

by_choice : (b : Bool) (from to : ℕ) (x y : Option ℕ) → EndsWithin from to x → EndsWithin from to y → EndsWithin from to (if b then x else y)
by_choice true from to x y f g = f
by_choice false from to x y f g = g

wider : (from to : ℕ) (o : Option ℕ) → EndsWithin (from + 1) to o → EndsWithin from to o
wider from to None e = tt
wider from to (Some end) e = (let lt = e.0 in omega arith, e.1)

literal_within : (second : Bool) (at : ℕ) (z : List ℕ) → EndsWithin at (at + length z) (literal_end second at z)
literal_within second at [] = tt
literal_within true at (b ∷ z) =
    let P : ℕ → Type 0 = λ v. EndsWithin at v (literal_end false (at + 1) z) in
    let same : (at + 1) + length z ≡ at + length (b ∷ z) = omega arith in
    subst P same (wider at ((at + 1) + length z) (literal_end false (at + 1) z) (literal_within false (at + 1) z))
literal_within false at (b ∷ z) =
    let P : ℕ → Type 0 = λ v. EndsWithin at v (literal_end (is_quote b) (at + 1) z) in
    let same : (at + 1) + length z ≡ at + length (b ∷ z) = omega arith in
    by_choice (is_quote b && not (is_quote (slice_index z 0))) at (at + length (b ∷ z)) (Some (at + 1)) (literal_end (is_quote b) (at + 1) z) (omega arith, omega arith)
    (subst P same (wider at ((at + 1) + length z) (literal_end (is_quote b) (at + 1) z) (literal_within (is_quote b) (at + 1) z)))

literal_known : (z : List ℕ) (o : Option ℕ) → EndsWithin 1 (length z) o → Known z (literal_to z o)
literal_known z None e = tt
literal_known z (Some end) e = by_test z (nat_lt (utf8_valid_len (take end z)) end) (front.BadCharacter (utf8_valid_len (take end z))) (front.Whole token.Text end) (λ _. tt)
    (λ _. record { fits = e.1; word = λ e. absurd cc; number = λ e. absurd cc; literal = λ _. e.0 })

comment_known : (z : List ℕ) (o : Option ℕ) → Known z (comment_to o)
comment_known z None = tt
comment_known z (Some end) = tt

symbol_known : (z : List ℕ) (count : ℕ) → count ≤ length z → Known z (front.Whole token.Symbol count)
symbol_known z count le = record { fits = le; word = λ e. absurd cc; number = λ e. absurd cc; literal = λ e. absurd cc }

pair_long : (b : ℕ) (z : List ℕ) → is_pair b (slice_index (b ∷ z) 1) ≡ true → 2 ≤ length (b ∷ z)
pair_long b [] e = absurd (no_pair b e)
  where
    no_pair : (b : ℕ) → is_pair b 0 ≡ true → ⊥
    no_pair b e = grind (arith, nat_tests)
pair_long b (c ∷ z) e = omega arith

pub front_known : (b : ℕ) (z : List ℕ) → Known (b ∷ z) (front_of (b ∷ z))
unfolding front_of
front_known b z =
    by_test (b ∷ z) (is_space b) _ _ (λ _. tt) (λ _.
    by_test (b ∷ z) (begins_word b) _ _ (λ _. word_known (b ∷ z)) (λ _.
    by_test (b ∷ z) (is_ascii_digit b) _ _ (λ _. number_known (b ∷ z)) (λ _.
    by_test (b ∷ z) (is_quote b) _ _ (λ _. literal_known (b ∷ z) (literal_end false 1 z) (literal_within' z)) (λ _.
    by_test (b ∷ z) (opens_comment b (slice_index (b ∷ z) 1)) _ _ (λ _. comment_known (b ∷ z) _) (λ _.
    by_test (b ∷ z) (is_pair b (slice_index (b ∷ z) 1)) _ _ (λ e. symbol_known (b ∷ z) 2 (pair_long b z e)) (λ _.
    by_test (b ∷ z) (is_symbol b) _ _ (λ _. symbol_known (b ∷ z) 1 (omega arith)) (λ _. tt)))))))
  where
    literal_within' : (z : List ℕ) → EndsWithin 1 (length (b ∷ z)) (literal_end false 1 z)
    literal_within' z = let P : ℕ → Type 0 = λ v. EndsWithin 1 v (literal_end false 1 z) in
        let same : 1 + length z ≡ length (b ∷ z) = omega arith in subst P same (literal_within false 1 z)

-- ---- kinds

chosen_if : {A : Type 0} (P : A → Type 0) (b : Bool) (x y : A) → P x → P y → P (if b then x else y)
chosen_if P true x y f g = f
chosen_if P false x y f g = g

abbrev Holds : (Kind → Bool) → Option Kind → Type 0
Holds test None = Unit {0}
Holds test (Some kind) = test kind ≡ true

first_holds : (test : Kind → Bool) (o : Option Kind) (other : Kind) → Holds test o → test other ≡ true → test (first_kind o other) ≡ true
first_holds test None other h e = e
first_holds test (Some kind) other h e = h

clause_words : (bytes : List ℕ) → Holds is_word (clause_word bytes)
clause_words bytes =
    chosen_if (Holds is_word) (is bytes (codes "select")) _ _ refl (chosen_if (Holds is_word) (is bytes (codes "distinct")) _ _ refl (chosen_if (Holds is_word) (is bytes (codes "as")) _ _ refl
    (chosen_if (Holds is_word) (is bytes (codes "match")) _ _ refl (chosen_if (Holds is_word) (is bytes (codes "where")) _ _ refl tt))))

order_words : (bytes : List ℕ) → Holds is_word (order_word bytes)
order_words bytes =
    chosen_if (Holds is_word) (is bytes (codes "order")) _ _ refl (chosen_if (Holds is_word) (is bytes (codes "by")) _ _ refl (chosen_if (Holds is_word) (is bytes (codes "asc")) _ _ refl
    (chosen_if (Holds is_word) (is bytes (codes "desc")) _ _ refl (chosen_if (Holds is_word) (is bytes (codes "limit")) _ _ refl tt))))

logic_words : (bytes : List ℕ) → Holds is_word (logic_word bytes)
logic_words bytes =
    chosen_if (Holds is_word) (is bytes (codes "and")) _ _ refl (chosen_if (Holds is_word) (is bytes (codes "or")) _ _ refl (chosen_if (Holds is_word) (is bytes (codes "not")) _ _ refl
    (chosen_if (Holds is_word) (is bytes (codes "is")) _ _ refl tt)))

value_words : (bytes : List ℕ) → Holds is_word (value_word bytes)
value_words bytes =
    chosen_if (Holds is_word) (is bytes (codes "null")) _ _ refl (chosen_if (Holds is_word) (is bytes (codes "true")) _ _ refl (chosen_if (Holds is_word) (is bytes (codes "false")) _ _ refl
    (chosen_if (Holds is_word) (is bytes (codes "date")) _ _ refl tt)))

pub word_is_word : (bytes : List ℕ) → is_word (word_kind bytes) ≡ true
unfolding word_kind
word_is_word bytes = first_holds is_word (clause_word bytes) _ (clause_words bytes) (first_holds is_word (order_word bytes) _ (order_words bytes)
    (first_holds is_word (logic_word bytes) _ (logic_words bytes) (first_holds is_word (value_word bytes) k.Name (value_words bytes) refl)))

-- no word and no literal
abbrev pub is_sign : Kind → Bool
is_sign k.Number = false
is_sign k.Text = false
is_sign kind = not (is_word kind)

mark_signs : (byte : ℕ) → Holds is_sign (mark_kind byte)
mark_signs byte =
    chosen_if (Holds is_sign) (byte == 40) _ _ refl (chosen_if (Holds is_sign) (byte == 41) _ _ refl (chosen_if (Holds is_sign) (byte == 91) _ _ refl (chosen_if (Holds is_sign) (byte == 93) _ _ refl
    (chosen_if (Holds is_sign) (byte == 44) _ _ refl (chosen_if (Holds is_sign) (byte == 58) _ _ refl (chosen_if (Holds is_sign) (byte == 46) _ _ refl (chosen_if (Holds is_sign) (byte == 124) _ _ refl tt)))))))

abbrev Sign : Kind → Type 0
Sign kind = is_sign kind ≡ true

operator_sign : (byte : ℕ) → Sign (operator_kind byte)
operator_sign byte = chosen_if Sign (byte == 43) _ _ refl (chosen_if Sign (byte == 45) _ _ refl (chosen_if Sign (byte == 42) _ _ refl (chosen_if Sign (byte == 47) _ _ refl (chosen_if Sign (byte == 61) _ _ refl refl))))

less_sign : (next : ℕ) → Sign (less_kind next)
less_sign next = chosen_if Sign (next == 62) _ _ refl (chosen_if Sign (next == 61) _ _ refl refl)

greater_sign : (next : ℕ) → Sign (greater_kind next)
greater_sign next = chosen_if Sign (next == 61) _ _ refl refl

pub symbol_is_sign : (bytes : List ℕ) → is_sign (symbol_kind bytes) ≡ true
unfolding symbol_kind
symbol_is_sign bytes =
    let byte = slice_index bytes 0 in
    let next = slice_index bytes 1 in
    chosen_if Sign (byte == 60) _ _ (less_sign next) (chosen_if Sign (byte == 62) _ _ (greater_sign next) (first_holds is_sign (mark_kind byte) (operator_kind byte) (mark_signs byte) (operator_sign byte)))

pub sign_no_word : (kind : Kind) → is_sign kind ≡ true → is_word kind ≡ true → ⊥
sign_no_word k.Number s w = cc
sign_no_word k.Text s w = cc
sign_no_word k.Open s w = cc
sign_no_word k.Close s w = cc
sign_no_word k.OpenBracket s w = cc
sign_no_word k.CloseBracket s w = cc
sign_no_word k.Comma s w = cc
sign_no_word k.Colon s w = cc
sign_no_word k.Dot s w = cc
sign_no_word k.Bar s w = cc
sign_no_word k.Plus s w = cc
sign_no_word k.Minus s w = cc
sign_no_word k.Star s w = cc
sign_no_word k.Slash s w = cc
sign_no_word k.Percent s w = cc
sign_no_word k.Equal s w = cc
sign_no_word k.Unequal s w = cc
sign_no_word k.Less s w = cc
sign_no_word k.LessEqual s w = cc
sign_no_word k.Greater s w = cc
sign_no_word k.GreaterEqual s w = cc
sign_no_word kind s w = cc

pub clash : (b : Bool) → b ≡ true → b ≡ false → ⊥
clash b x y = cc

-- ---- a token

token_known : (kind : TokenKind) (text : List ℕ) (count at : ℕ) → Facts text kind count → IsToken (seen_as kind (take count text) at)
token_known token.Word text count at f = record {
  word = λ w. f.word refl;
  number = λ e. absurd (clash (is_word k.Number) (ap is_word (sym e) ∙ word_is_word (take count text)) refl);
  literal = λ e. absurd (clash (is_word k.Text) (ap is_word (sym e) ∙ word_is_word (take count text)) refl);
}
token_known token.Number text count at f = record { word = λ w. absurd cc; number = λ e. f.number refl; literal = λ e. absurd cc }
token_known token.Text text count at f = record {
  word = λ w. absurd cc;
  number = λ e. absurd cc;
  literal = λ e. let P : ℕ → Type 0 = λ v. 2 ≤ v in subst P (sym (length-take-le count text f.fits)) (f.literal refl);
}
token_known token.Symbol text count at f = record {
  word = λ w. absurd (sign_no_word (symbol_kind (take count text)) (symbol_is_sign (take count text)) w);
  number = λ e. absurd (clash (is_sign k.Number) (ap is_sign (sym e) ∙ symbol_is_sign (take count text)) refl);
  literal = λ e. absurd (clash (is_sign k.Text) (ap is_sign (sym e) ∙ symbol_is_sign (take count text)) refl);
}

pub part_is : (base count : ℕ) (before rest : List ℕ) → part (before ++ rest) base (base + length before) (base + length before + count) ≡ take count rest
part_is base count before rest =
    let from : base + length before - base ≡ length before = omega arith in
    let size : base + length before + count - (base + length before) ≡ count = omega arith in
    ap (λ n. take n (drop (base + length before - base) (before ++ rest))) size ∙ ap (λ n. take count (drop n (before ++ rest))) from ∙ ap (take count) (drop_front before rest)
  where
    drop_front : (before rest : List ℕ) → drop (length before) (before ++ rest) ≡ rest
    drop_front before rest = drop-append_seam before rest

token_of : (base : ℕ) (before rest : List ℕ) (kind : TokenKind) (count : ℕ) → Facts rest kind count
    → IsTokenOf (before ++ rest) base (record { kind = kind; at = base + length before; end = base + length before + count })
token_of base before rest kind count f = record {
  low = omega arith;
  ordered = omega arith;
  high = let le = f.fits in omega (arith, length-append before rest);
  is_token =
      let P : List ℕ → Type 0 = λ v. IsToken (seen_as kind v (base + length before)) in
      subst P (sym (part_is base count before rest)) (token_known kind rest count (base + length before) f);
}

list_of : List Token → Lexed → List Token
list_of ts (Ok found) = found
list_of ts (Err e) = ts

one_more : (P : Token → Type 0) (t : Token) (o : Lexed) (ts : List Token) → with_front (t ∷ []) o ≡ Ok ts → P t → ((more : List Token) → o ≡ Ok more → AllByRecursion P more) → AllByRecursion P ts
unfolding list_of
one_more P t (Err e) ts w p f = absurd cc
one_more P t (Ok more) ts w p f =
    let Q : List Token → Type 0 = AllByRecursion P in
    let same : t ∷ more ≡ ts = ap (list_of ts) w in
    subst Q same (p, f more refl)

next_place : (base : ℕ) (before : List ℕ) (b : ℕ) → base + length (before ++ b ∷ []) ≡ base + length before + 1
next_place base before b = omega (arith, length-append before (b ∷ []))

-- The token stands at the front of a rest of the text.
pub record StandsIn (text : List ℕ) (base : ℕ) (t : Token) : Type 0 where
  pub before : List ℕ
  pub byte : ℕ
  pub rest : List ℕ
  pub count : ℕ
  pub text_is : text ≡ before ++ byte ∷ rest
  pub front_is : front_of (byte ∷ rest) ≡ front.Whole t.kind count
  pub at_is : t.at ≡ base + length before
  pub end_is : t.end ≡ base + length before + count

-- what the tokens of the rest are does not rest on how the text is cut
moved : (passed base : ℕ) (before : List ℕ) (b : ℕ) (bs : List ℕ) (ts : List Token) → tokens_from passed (base + length before + 1) bs ≡ Ok ts → tokens_from passed (base + length (before ++ b ∷ [])) bs ≡ Ok ts
moved passed base before b bs ts e = ap (λ n. tokens_from passed n bs) (next_place base before b) ∙ e

cut_there : (base : ℕ) (before : List ℕ) (b : ℕ) (bs : List ℕ) (ts : List Token) → AllByRecursion (StandsIn ((before ++ b ∷ []) ++ bs) base) ts → AllByRecursion (StandsIn (before ++ b ∷ bs) base) ts
cut_there base before b bs ts d = let P : List ℕ → Type 0 = λ v. AllByRecursion (StandsIn v base) ts in subst P (append_assoc before (b ∷ []) bs) d

tokens_stand : (base passed : ℕ) (before z : List ℕ) (ts : List Token) → tokens_from passed (base + length before) z ≡ Ok ts → AllByRecursion (StandsIn (before ++ z) base) ts
unfolding list_of
tokens_stand base passed before [] ts e =
    let P : List Token → Type 0 = AllByRecursion (StandsIn (before ++ []) base) in
    let same : [] ≡ ts = ap (list_of ts) e in
    subst P same tt
tokens_stand base (suc passed) before (b ∷ bs) ts e = cut_there base before b bs ts (tokens_stand base passed (before ++ b ∷ []) bs ts (moved passed base before b bs ts e))
tokens_stand base zero before (b ∷ bs) ts e =
    by_front (λ passed more d. cut_there base before b bs more (tokens_stand base passed (before ++ b ∷ []) bs more (moved passed base before b bs more d))) (front_of (b ∷ bs)) refl e
  where
    by_front : ((passed : ℕ) (more : List Token) → tokens_from passed (base + length before + 1) bs ≡ Ok more → AllByRecursion (StandsIn (before ++ b ∷ bs) base) more)
        → (f : Front) → front_of (b ∷ bs) ≡ f → lexed_after f (base + length before) (λ passed. tokens_from passed (base + length before + 1) bs) ≡ Ok ts → AllByRecursion (StandsIn (before ++ b ∷ bs) base) ts
    by_front go (front.Gap count) is e = go (count - 1) ts e
    by_front go (front.Whole kind count) is e =
        one_more (StandsIn (before ++ b ∷ bs) base) (record { kind = kind; at = base + length before; end = base + length before + count }) (tokens_from (count - 1) (base + length before + 1) bs) ts e
        (record { before = before; byte = b; rest = bs; count = count; text_is = refl; front_is = is; at_is = refl; end_is = refl }) (go (count - 1))
    by_front go (front.BadCharacter count) is e = absurd cc
    by_front go front.OpenText is e = absurd cc
    by_front go front.OpenComment is e = absurd cc
    by_front go front.WideNumber is e = absurd cc

pub all_stand : (base : ℕ) (text : List ℕ) (ts : List Token) → tokens base text ≡ Ok ts → AllByRecursion (StandsIn text base) ts
unfolding tokens
all_stand base text ts e = tokens_stand base 0 [] text ts (ap (λ n. tokens_from 0 n text) (let same : base + 0 ≡ base = omega arith in same) ∙ e)

pub all_turn : {A : Type 0} (P Q : A → Type 0) → ((x : A) → P x → Q x) → (xs : List A) → AllByRecursion P xs → AllByRecursion Q xs
all_turn P Q f [] all = tt
all_turn P Q f (x ∷ xs) all = (f x all.0, all_turn P Q f xs all.1)

pub front_facts : (byte : ℕ) (rest : List ℕ) (kind : TokenKind) (count : ℕ) → front_of (byte ∷ rest) ≡ front.Whole kind count → Facts (byte ∷ rest) kind count
front_facts byte rest kind count is = let P : Front → Type 0 = Known (byte ∷ rest) in subst P is (front_known byte rest)

-- a token by its parts
placed_so : (text : List ℕ) (base : ℕ) (t : Token) (at end : ℕ) → t.at ≡ at → t.end ≡ end → IsTokenOf text base (record { kind = t.kind; at = at; end = end }) → IsTokenOf text base t
placed_so text base t at end a e is =
    let P : ℕ → Type 0 = λ n. IsTokenOf text base (record { kind = t.kind; at = t.at; end = n }) in
    let Q : ℕ → Type 0 = λ n. IsTokenOf text base (record { kind = t.kind; at = n; end = end }) in
    subst P (sym e) (subst Q (sym a) is)

stands_sound : (text : List ℕ) (base : ℕ) (t : Token) → StandsIn text base t → IsTokenOf text base t
stands_sound text base t s =
    let P : List ℕ → Type 0 = λ v. IsTokenOf v base t in
    subst P (sym s.text_is)
    (placed_so (s.before ++ s.byte ∷ s.rest) base t (base + length s.before) (base + length s.before + s.count) s.at_is s.end_is
    (token_of base s.before (s.byte ∷ s.rest) t.kind s.count (front_facts s.byte s.rest t.kind s.count s.front_is)))

pub all_sound : (base : ℕ) (text : List ℕ) (ts : List Token) → tokens base text ≡ Ok ts → AllByRecursion (IsTokenOf text base) ts
all_sound base text ts e = all_turn (StandsIn text base) (IsTokenOf text base) (stands_sound text base) ts (all_stand base text ts e)
