-- What the words and literals of a text are, so that they can be written again.
use Rattle.std.proofs.Common.{◌≡◌, ℕ, suc, ◌+◌, ◌-◌, ◌<◌, ◌^◌, Bool, true, false, List, [], ◌∷◌, ◌++◌, map, length, length-append, take, drop, Option, Some, None, Ok}
use Rattle.std.proofs.Common.{refl, sym, ap, ◌∙◌, subst, append_assoc, arith}
use Rattle.std.proofs.lemmas.Bool.Decides.{nat_tests}
use Rattle.std.proofs.Math.Seq.{take-append_seam}
use Rattle.std.specs.Prelude.{not, nat_lt, ◌&&◌, if◌then◌else◌, slice_index, flat_map}
use Rattle.std.specs.Char.{is_ascii_digit}
use Rattle.std.specs.List.{prefix_len, AllByRecursion}
use Rattle.std.specs.Str.Lossy.{utf8_valid_len}
use Rattle.pgql_lexer.specs.declared.token.Token.{Token}
use Rattle.pgql_lexer.specs.declared.token.TokenKind.{TokenKind}
use Rattle.pgql_lexer.specs.declared.token.TokenKind.TheVariants as token
use Rattle.pgql_lexer.specs.declared.fronts.Front.{Front}
use Rattle.pgql_lexer.specs.declared.fronts.Front.TheVariants as front
use Rattle.pgql_lexer.specs.Fronts.{is_space, begins_word, is_word_byte, is_quote, opens_comment, is_symbol, is_pair, value_after, most_number, number_of, literal_end}
use Rattle.pgql_lexer.specs.Fronts.{literal_to, comment_to, front_of}
use Rattle.pgql_lexer.specs.Tokens.{tokens}
use Rattle.pgql_print.specs.Printing.{doubled, quoted}
use Rattle.pgql_lexemes.specs.declared.kind.Kind.TheVariants as k
use Rattle.pgql_lexemes.specs.Lexemes.{Lexeme, is_word, value_of, undoubled, content_of}
use Rattle.pgql_lexemes.specs.Seen.{word_kind, symbol_kind, part, seen_as, seen}
use Rattle.pgql_lexemes.proofs.Sound.{Facts, front_facts, StandsIn, all_stand, part_is, word_is_word, is_sign, symbol_is_sign, sign_no_word, clash}
use Rattle.pgql_syntax.proofs.Lexing.{parts, parts_first, IsLexed, one_token}
use Rattle.pgql_syntax.proofs.Standing.{IsWord, if_false}

-- ---- literals

-- The literal ends there: its content, a quote, and what comes after.
record IsClosed (place : ℕ) (z : List ℕ) (end : ℕ) : Type 0 where
  content : List ℕ
  after : List ℕ
  splits : z ≡ content ++ 39 ∷ after
  end_is : end ≡ place + length content + 1
  stays : (rest : List ℕ) → parts_first rest ≡ true → literal_end false place (content ++ 39 ∷ rest) ≡ Some end
  again : flat_map doubled (undoubled false content) ≡ content

quote_is : (b : ℕ) → is_quote b ≡ true → b ≡ 39
quote_is b e = grind (arith, nat_tests)

no_quote_first : (rest : List ℕ) → parts_first rest ≡ true → is_quote (slice_index rest 0) ≡ false
no_quote_first [] e = refl
no_quote_first (c ∷ z) e = parts_no_quote c e
  where
    parts_no_quote : (c : ℕ) → parts c ≡ true → is_quote c ≡ false
    parts_no_quote c e = grind (arith, nat_tests)

some_is : {A : Type 0} (x y : A) → Some x ≡ Some y → x ≡ y
some_is x y e = cc

closes_here : (place end : ℕ) (after : List ℕ) → place + 1 ≡ end → IsClosed place (39 ∷ after) end
closes_here place end after e = record {
  content = [];
  after = after;
  splits = refl;
  end_is = omega arith;
  stays = λ rest p. ap (λ t. if not t then Some (place + 1) else literal_end true (place + 1) rest) (no_quote_first rest p) ∙ ap (λ n. Some n) e;
  again = refl;
}

-- a byte that is no quote, before the rest
one_byte : (place end b : ℕ) (z : List ℕ) → is_quote b ≡ false → IsClosed (place + 1) z end → IsClosed place (b ∷ z) end
one_byte place end b z plain c = record {
  content = b ∷ c.content;
  after = c.after;
  splits = ap (λ v. b ∷ v) c.splits;
  end_is = let e = c.end_is in omega arith;
  stays = λ rest p.
      ap (λ t. if t && not (is_quote (slice_index (c.content ++ 39 ∷ rest) 0)) then Some (place + 1) else literal_end t (place + 1) (c.content ++ 39 ∷ rest)) plain ∙ c.stays rest p;
  again =
      ap (λ t. doubled b ++ flat_map doubled (undoubled (t && is_quote (slice_index c.content 0)) c.content)) plain
      ∙ ap (λ t. (if t then 39 ∷ 39 ∷ [] else b ∷ []) ++ flat_map doubled (undoubled false c.content)) plain ∙ ap (λ v. b ∷ v) c.again;
}

-- a doubled quote before the rest
two_quotes : (place end : ℕ) (z : List ℕ) → IsClosed ((place + 1) + 1) z end → IsClosed place (39 ∷ 39 ∷ z) end
two_quotes place end z c = record {
  content = 39 ∷ 39 ∷ c.content;
  after = c.after;
  splits = ap (λ v. 39 ∷ 39 ∷ v) c.splits;
  end_is = let e = c.end_is in omega arith;
  stays = λ rest p. c.stays rest p;
  again = ap (λ v. 39 ∷ 39 ∷ v) c.again;
}

closed : (z : List ℕ) (place end : ℕ) → literal_end false place z ≡ Some end → IsClosed place z end
closed [] place end e = absurd cc
closed (b ∷ []) place end e = by_quote (is_quote b) refl
  where
    by_quote : (t : Bool) → is_quote b ≡ t → IsClosed place (b ∷ []) end
    by_quote true q =
        let P : ℕ → Type 0 = λ v. IsClosed place (v ∷ []) end in
        let at_once : Some (place + 1) ≡ Some end = sym (ap (λ t. if t && true then Some (place + 1) else None) q) ∙ e in
        subst P (sym (quote_is b q)) (closes_here place end [] (some_is (place + 1) end at_once))
    by_quote false q =
        let none : None ≡ Some end = sym (ap (λ t. if t && true then Some (place + 1) else literal_end t (place + 1) []) q) ∙ e in
        absurd cc
closed (b ∷ c ∷ z) place end e = by_quotes (is_quote b) (is_quote c) refl refl (closed z ((place + 1) + 1) end) (closed (c ∷ z) (place + 1) end)
  where
    by_quotes : (t u : Bool) → is_quote b ≡ t → is_quote c ≡ u → (literal_end false ((place + 1) + 1) z ≡ Some end → IsClosed ((place + 1) + 1) z end)
        → (literal_end false (place + 1) (c ∷ z) ≡ Some end → IsClosed (place + 1) (c ∷ z) end) → IsClosed place (b ∷ c ∷ z) end
    by_quotes true true q r past next =
        let inner : literal_end false ((place + 1) + 1) z ≡ Some end =
        sym (ap (λ t. if t && not (is_quote c) then Some (place + 1) else literal_end t (place + 1) (c ∷ z)) q ∙ ap (λ u. if not u then Some (place + 1) else literal_end true (place + 1) (c ∷ z)) r) ∙ e in
        let P : ℕ → Type 0 = λ v. IsClosed place (v ∷ c ∷ z) end in
        let Q : ℕ → Type 0 = λ v. IsClosed place (39 ∷ v ∷ z) end in
        subst P (sym (quote_is b q)) (subst Q (sym (quote_is c r)) (two_quotes place end z (past inner)))
    by_quotes true false q r past next =
        let at_once : Some (place + 1) ≡ Some end =
        sym (ap (λ t. if t && not (is_quote c) then Some (place + 1) else literal_end t (place + 1) (c ∷ z)) q ∙ ap (λ u. if not u then Some (place + 1) else literal_end true (place + 1) (c ∷ z)) r) ∙ e in
        let P : ℕ → Type 0 = λ v. IsClosed place (v ∷ c ∷ z) end in
        subst P (sym (quote_is b q)) (closes_here place end (c ∷ z) (some_is (place + 1) end at_once))
    by_quotes false u q r past next =
        let inner : literal_end false (place + 1) (c ∷ z) ≡ Some end = sym (ap (λ t. if t && not (is_quote c) then Some (place + 1) else literal_end t (place + 1) (c ∷ z)) q) ∙ e in
        one_byte place end b (c ∷ z) q (next inner)

front_literal : (y : List ℕ) → front_of (39 ∷ y) ≡ literal_to (39 ∷ y) (literal_end false 1 y)
unfolding front_of
front_literal y = refl

-- The literal with its quotes stays a token, and is how its content is written.
pub record IsLiteral (bytes : List ℕ) : Type 0 where
  pub lexed : IsLexed parts_first bytes ((k.Text, bytes) ∷ [])
  pub written : (at : ℕ) → quoted (content_of (seen_as token.Text bytes at)) ≡ bytes

whole_literal : (content : List ℕ) → ((rest : List ℕ) → parts_first rest ≡ true → literal_end false 1 (content ++ 39 ∷ rest) ≡ Some (1 + length content + 1)) → flat_map doubled (undoubled false content) ≡ content
    → nat_lt (utf8_valid_len (39 ∷ content ++ 39 ∷ [])) (1 + length content + 1) ≡ false → IsLiteral (39 ∷ content ++ 39 ∷ [])
whole_literal content stays again valid =
    let body = content ++ 39 ∷ [] in
    let size : 1 + length content + 1 ≡ suc (length body) = omega (arith, length-append content (39 ∷ [])) in
    record {
      lexed = one_token token.Text 39 body (λ rest p.
          front_literal (body ++ rest)
          ∙ ap (literal_to (39 ∷ body ++ rest)) (ap (literal_end false 1) (append_assoc content (39 ∷ []) rest) ∙ stays rest p)
          ∙ ap (λ n. literal_to (39 ∷ body ++ rest) (Some n)) size
          ∙ if_false (nat_lt (utf8_valid_len (take (suc (length body)) (39 ∷ body ++ rest))) (suc (length body))) _ _
          (ap (λ w. nat_lt (utf8_valid_len w) (suc (length body))) (take-append_seam (39 ∷ body) rest) ∙ ap (nat_lt (utf8_valid_len (39 ∷ body))) (sym size) ∙ valid));
      written = λ at.
          let inner : suc (length body) - 2 ≡ length content = omega (arith, length-append content (39 ∷ [])) in
          ap (λ n. quoted (undoubled false (take n body))) inner ∙ ap (λ v. quoted (undoubled false v)) (take-append_seam content (39 ∷ [])) ∙ ap (λ v. 39 ∷ v ++ 39 ∷ []) again;
    }

literal_source : (bs : List ℕ) (count : ℕ) → literal_end false 1 bs ≡ Some count → nat_lt (utf8_valid_len (take count (39 ∷ bs))) count ≡ false → IsLiteral (take count (39 ∷ bs))
literal_source bs count e valid =
    let c = closed bs 1 count e in
    let size : suc (length (c.content ++ 39 ∷ [])) ≡ count = let s = c.end_is in omega (arith, length-append c.content (39 ∷ [])) in
    let bytes : take count (39 ∷ bs) ≡ 39 ∷ c.content ++ 39 ∷ [] =
    ap (λ v. take count (39 ∷ v)) (c.splits ∙ sym (append_assoc c.content (39 ∷ []) c.after)) ∙ ap (λ n. take n ((39 ∷ c.content ++ 39 ∷ []) ++ c.after)) (sym size) ∙ take-append_seam (39 ∷ c.content ++ 39 ∷ []) c.after in
    let P : List ℕ → Type 0 = IsLiteral in
    subst P (sym bytes)
    (whole_literal c.content (λ rest p. c.stays rest p ∙ ap (λ n. Some n) c.end_is) c.again
    (ap (nat_lt (utf8_valid_len (39 ∷ c.content ++ 39 ∷ []))) (sym c.end_is) ∙ ap (λ v. nat_lt (utf8_valid_len v) count) (sym bytes) ∙ valid))

-- ---- fronts

-- how a word and a literal came about
abbrev Came : List ℕ → Front → Type 0
Came z (front.Whole token.Word count) = (begins_word (slice_index z 0) ≡ true) × (count ≡ prefix_len is_word_byte z)
Came z (front.Whole token.Text count) = (is_quote (slice_index z 0) ≡ true) × (literal_end false 1 (drop 1 z) ≡ Some count) × (nat_lt (utf8_valid_len (take count z)) count ≡ false)
Came z other = Unit {0}

came_by : (z : List ℕ) (b : Bool) (x y : Front) → (b ≡ true → Came z x) → (b ≡ false → Came z y) → Came z (if b then x else y)
came_by z true x y f g = f refl
came_by z false x y f g = g refl

number_came : (z : List ℕ) → Came z (number_of z)
number_came z = came_by z (nat_lt most_number (value_after 0 (take (prefix_len is_ascii_digit z) z))) front.WideNumber (front.Whole token.Number (prefix_len is_ascii_digit z)) (λ _. tt) (λ _. tt)

literal_came : (z : List ℕ) (o : Option ℕ) → is_quote (slice_index z 0) ≡ true → literal_end false 1 (drop 1 z) ≡ o → Came z (literal_to z o)
literal_came z None q e = tt
literal_came z (Some end) q e = came_by z (nat_lt (utf8_valid_len (take end z)) end) (front.BadCharacter (utf8_valid_len (take end z))) (front.Whole token.Text end) (λ _. tt) (λ valid. (q, e, valid))

comment_came : (z : List ℕ) (o : Option ℕ) → Came z (comment_to o)
comment_came z None = tt
comment_came z (Some end) = tt

front_came : (z : List ℕ) → Came z (front_of z)
unfolding front_of
front_came z =
    came_by z (is_space (slice_index z 0)) _ _ (λ _. tt) (λ _.
    came_by z (begins_word (slice_index z 0)) _ _ (λ e. (e, refl)) (λ _.
    came_by z (is_ascii_digit (slice_index z 0)) _ _ (λ _. number_came z) (λ _.
    came_by z (is_quote (slice_index z 0)) _ _ (λ q. literal_came z (literal_end false 1 (drop 1 z)) q refl) (λ _.
    came_by z (opens_comment (slice_index z 0) (slice_index z 1)) _ _ (λ _. comment_came z _) (λ _.
    came_by z (is_pair (slice_index z 0) (slice_index z 1)) _ _ (λ _. tt) (λ _.
    came_by z (is_symbol (slice_index z 0)) _ _ (λ _. tt) (λ _. tt)))))))

one_passes : (p : ℕ → Bool) (b : ℕ) (z : List ℕ) → p b ≡ true → prefix_len p (b ∷ z) ≡ suc (prefix_len p z)
one_passes p b z e = let one : prefix_len p (b ∷ z) ≡ 1 + prefix_len p z = rw e in omega arith

whole_prefix : (p : ℕ → Bool) (z : List ℕ) → prefix_len p (take (prefix_len p z) z) ≡ length (take (prefix_len p z) z)
whole_prefix p [] = refl
whole_prefix p (b ∷ z) = by_test (p b) refl (whole_prefix p z)
  where
    by_test : (t : Bool) → p b ≡ t → prefix_len p (take (prefix_len p z) z) ≡ length (take (prefix_len p z) z) → prefix_len p (take (prefix_len p (b ∷ z)) (b ∷ z)) ≡ length (take (prefix_len p (b ∷ z)) (b ∷ z))
    by_test false q more = let none : prefix_len p (b ∷ z) ≡ 0 = rw q in rw none
    by_test true q more =
        let some : prefix_len p (b ∷ z) ≡ suc (prefix_len p z) = one_passes p b z q in
        let P : ℕ → Type 0 = λ n. prefix_len p (take n (b ∷ z)) ≡ length (take n (b ∷ z)) in
        let first : prefix_len p (b ∷ take (prefix_len p z) z) ≡ suc (prefix_len p (take (prefix_len p z) z)) = one_passes p b (take (prefix_len p z) z) q in
        subst P (sym some) (first ∙ ap (λ n. suc n) more)

word_source : (byte : ℕ) (rest : List ℕ) (count : ℕ) → begins_word byte ≡ true → count ≡ prefix_len is_word_byte (byte ∷ rest) → IsWord (take count (byte ∷ rest))
word_source byte rest count begins is =
    let P : ℕ → Type 0 = λ n. IsWord (take n (byte ∷ rest)) in
    let some : prefix_len is_word_byte (byte ∷ rest) ≡ suc (prefix_len is_word_byte rest) = one_passes is_word_byte byte rest (begins_is_word byte begins) in
    let Q : ℕ → Type 0 = λ n. prefix_len is_word_byte (take n (byte ∷ rest)) ≡ length (take n (byte ∷ rest)) in
    subst P (sym (is ∙ some)) (record { begins = begins; whole = subst Q some (whole_prefix is_word_byte (byte ∷ rest)) })
  where
    begins_is_word : (b : ℕ) → begins_word b ≡ true → is_word_byte b ≡ true
    begins_is_word b e = grind (arith, nat_tests)

-- ---- tokens of a text

-- What a token of a text is, so that it can be written again: a word is one in another text too, a number is
-- within i64, and a literal is what is written of its content.
pub record IsSource (t : Lexeme) : Type 0 where
  pub word : is_word t.kind ≡ true → IsWord t.bytes × (word_kind t.bytes ≡ t.kind)
  pub number : t.kind ≡ k.Number → value_of t < 2 ^ 63
  pub literal : t.kind ≡ k.Text → (quoted (content_of t) ≡ t.bytes) × IsLexed parts_first t.bytes ((k.Text, t.bytes) ∷ [])

source_known : (kind : TokenKind) (byte : ℕ) (rest : List ℕ) (count at : ℕ) → Came (byte ∷ rest) (front.Whole kind count) → Facts (byte ∷ rest) kind count → IsSource (seen_as kind (take count (byte ∷ rest)) at)
source_known token.Word byte rest count at came f =
    let bytes = take count (byte ∷ rest) in
    record {
      word = λ w. (word_source byte rest count came.0 came.1, refl);
      number = λ e. absurd (clash (is_word k.Number) (ap is_word (sym e) ∙ word_is_word bytes) refl);
      literal = λ e. absurd (clash (is_word k.Text) (ap is_word (sym e) ∙ word_is_word bytes) refl);
    }
source_known token.Number byte rest count at came f = record { word = λ w. absurd cc; number = λ e. f.number refl; literal = λ e. absurd cc }
source_known token.Text byte rest count at came f = record { word = λ w. absurd cc; number = λ e. absurd cc; literal = λ e. let l = as_literal (quote_is byte came.0) in (l.written at, l.lexed) }
  where
    as_literal : byte ≡ 39 → IsLiteral (take count (byte ∷ rest))
    as_literal q =
        let P : ℕ → Type 0 = λ b. IsLiteral (take count (b ∷ rest)) in
        let valid : nat_lt (utf8_valid_len (take count (39 ∷ rest))) count ≡ false = ap (λ b. nat_lt (utf8_valid_len (take count (b ∷ rest))) count) (sym q) ∙ came.2 in
        subst P (sym q) (literal_source rest count came.1 valid)
source_known token.Symbol byte rest count at came f =
    let bytes = take count (byte ∷ rest) in
    record {
      word = λ w. absurd (sign_no_word (symbol_kind bytes) (symbol_is_sign bytes) w);
      number = λ e. absurd (clash (is_sign k.Number) (ap is_sign (sym e) ∙ symbol_is_sign bytes) refl);
      literal = λ e. absurd (clash (is_sign k.Text) (ap is_sign (sym e) ∙ symbol_is_sign bytes) refl);
    }

stands_source : (text : List ℕ) (base : ℕ) (t : Token) → StandsIn text base t → IsSource (seen text base t)
stands_source text base t s =
    let rest = s.byte ∷ s.rest in
    let bytes : part text base t.at t.end ≡ take s.count rest =
    ap (λ v. part v base t.at t.end) s.text_is ∙ ap (λ n. part (s.before ++ rest) base n t.end) s.at_is ∙ ap (part (s.before ++ rest) base (base + length s.before)) s.end_is
    ∙ part_is base s.count s.before rest in
    let P : List ℕ → Type 0 = λ v. IsSource (seen_as t.kind v t.at) in
    let F : Front → Type 0 = Came rest in
    subst P (sym bytes) (source_known t.kind s.byte s.rest s.count t.at (subst F s.front_is (front_came rest)) (front_facts s.byte s.rest t.kind s.count s.front_is))

pub all_source : (base : ℕ) (text : List ℕ) (ts : List Token) → tokens base text ≡ Ok ts → AllByRecursion IsSource (map (seen text base) ts)
all_source base text ts e = turned ts (all_stand base text ts e)
  where
    turned : (ts : List Token) → AllByRecursion (StandsIn text base) ts → AllByRecursion IsSource (map (seen text base) ts)
    turned [] all = tt
    turned (t ∷ ts) all = (stands_source text base t all.0, turned ts all.1)
