-- Texts that are lexed as the same tokens wherever they stand.
use Rattle.std.proofs.Common.{◌≡◌, ℕ, suc, ◌+◌, ◌-◌, Bool, true, List, [], ◌∷◌, ◌++◌, map, length, length-append, Ok, Err, refl, sym, ap, ◌∙◌, subst, append_assoc, arith}
use Rattle.std.proofs.lemmas.List.{map-append, append-nil}
use Rattle.std.proofs.Math.Seq.{take-append_seam}
use Rattle.std.specs.Prelude.{not, ◌||◌, ◌&&◌, ◌==◌}
use Rattle.pgql_lexer.specs.declared.token.Token.{Token}
use Rattle.pgql_lexer.specs.declared.token.TokenKind.{TokenKind}
use Rattle.pgql_lexer.specs.declared.fronts.Front.TheVariants as front
use Rattle.pgql_lexer.specs.Fronts.{is_word_byte, front_of}
use Rattle.pgql_lexer.specs.Tokens.{Lexed, with_front, lexed_after, tokens_from, tokens}
use Rattle.pgql_lexemes.specs.declared.kind.Kind.{Kind}
use Rattle.pgql_lexemes.specs.Lexemes.{Lexeme}
use Rattle.pgql_lexemes.specs.Seen.{kind_of, seen}
use Rattle.pgql_lexemes.proofs.Sound.{part_is}

-- a token without its place
abbrev pub Mark : Type 0
Mark = Kind × List ℕ

abbrev pub mark_of : Lexeme → Mark
mark_of t = (t.kind, t.bytes)

-- no token goes on with this byte: not a word, a number, a literal, `<`, `>` or `/`
abbrev pub parts : ℕ → Bool
parts byte = not (is_word_byte byte) && not (byte == 39 || (byte == 62 || (byte == 61 || byte == 42)))

-- the text is empty, or begins with such a byte
abbrev pub parts_first : List ℕ → Bool
parts_first [] = true
parts_first (byte ∷ bytes) = parts byte

abbrev pub any_text : List ℕ → Bool
any_text rest = true

-- Before a rest that passes the test, the text is lexed as these tokens, whatever stands before it.
pub record IsLexed (follows : List ℕ → Bool) (w : List ℕ) (ms : List Mark) : Type 0 where
  pub tokens_at : ℕ → List Token
  pub lexes : (at : ℕ) (rest : List ℕ) → follows rest ≡ true → tokens_from 0 at (w ++ rest) ≡ with_front (tokens_at at) (tokens_from 0 (at + length w) rest)
  pub marks_are : (base : ℕ) (left right : List ℕ) → map mark_of (map (seen (left ++ (w ++ right)) base) (tokens_at (base + length left))) ≡ ms

with_none : (o : Lexed) → with_front [] o ≡ o
with_none (Ok ts) = refl
with_none (Err e) = refl

with_both : (a b : List Token) (o : Lexed) → with_front a (with_front b o) ≡ with_front (a ++ b) o
with_both a b (Ok ts) = ap (λ v. Ok v) (sym (append_assoc a b ts))
with_both a b (Err e) = refl

same_place : (x y : ℕ) (rest : List ℕ) → x ≡ y → tokens_from 0 x rest ≡ tokens_from 0 y rest
same_place x y rest e = ap (λ n. tokens_from 0 n rest) e

pub no_text : IsLexed any_text [] []
no_text = record {
  tokens_at = λ at. [];
  lexes = λ at rest f. sym (with_none (tokens_from 0 (at + 0) rest) ∙ same_place (at + 0) at rest (omega arith));
  marks_are = λ base left right. refl;
}

pub one_space : IsLexed any_text (32 ∷ []) []
unfolding front_of
one_space = record {
  tokens_at = λ at. [];
  lexes = λ at rest f. sym (with_none (tokens_from 0 (at + 1) rest));
  marks_are = λ base left right. refl;
}

-- one text after the other, where the second may follow the first
pub lexed_both : {f g : List ℕ → Bool} {v w : List ℕ} {ms ns : List Mark}
    → IsLexed f v ms → IsLexed g w ns → ((rest : List ℕ) → g rest ≡ true → f (w ++ rest) ≡ true) → IsLexed g (v ++ w) (ms ++ ns)
lexed_both {v = v} {w = w} {ms = ms} {ns = ns} a b fits = record {
  tokens_at = λ at. a.tokens_at at ++ b.tokens_at (at + length v);
  lexes = λ at rest f.
      ap (tokens_from 0 at) (append_assoc v w rest) ∙ a.lexes at (w ++ rest) (fits rest f)
      ∙ ap (with_front (a.tokens_at at)) (b.lexes (at + length v) rest f)
      ∙ with_both (a.tokens_at at) (b.tokens_at (at + length v)) (tokens_from 0 ((at + length v) + length w) rest)
      ∙ ap (with_front (a.tokens_at at ++ b.tokens_at (at + length v))) (same_place ((at + length v) + length w) (at + length (v ++ w)) rest (omega (arith, length-append v w)));
  marks_are = λ base left right.
      let whole = left ++ ((v ++ w) ++ right) in
      let of : List ℕ → List Token → List Mark = λ text ts. map mark_of (map (seen text base) ts) in
      let at = base + length left in
      let front : whole ≡ left ++ (v ++ (w ++ right)) = ap (λ z. left ++ z) (append_assoc v w right) in
      let back : whole ≡ (left ++ v) ++ (w ++ right) = front ∙ sym (append_assoc left v (w ++ right)) in
      let place : at + length v ≡ base + length (left ++ v) = omega (arith, length-append left v) in
      ap (map mark_of) (map-append (seen whole base) (a.tokens_at at) (b.tokens_at (at + length v)))
      ∙ map-append mark_of (map (seen whole base) (a.tokens_at at)) (map (seen whole base) (b.tokens_at (at + length v)))
      ∙ ap (λ z. z ++ of whole (b.tokens_at (at + length v))) (ap (λ text. of text (a.tokens_at at)) front ∙ a.marks_are base left (w ++ right))
      ∙ ap (λ z. ms ++ z) (ap (λ text. of text (b.tokens_at (at + length v))) back ∙ ap (λ n. of ((left ++ v) ++ (w ++ right)) (b.tokens_at n)) place ∙ b.marks_are base (left ++ v) right);
}

-- what may stand before any text may stand before one that parts
pub before_any : {w : List ℕ} {ms : List Mark} → IsLexed any_text w ms → IsLexed parts_first w ms
before_any a = record { tokens_at = a.tokens_at; lexes = λ at rest f. a.lexes at rest refl; marks_are = a.marks_are }

-- before anything
pub lexed_before : {f : List ℕ → Bool} {v w : List ℕ} {ms ns : List Mark} → IsLexed any_text v ms → IsLexed f w ns → IsLexed f (v ++ w) (ms ++ ns)
lexed_before a b = lexed_both a b (λ rest f. refl)

pub still_parts : (w rest : List ℕ) → parts_first w ≡ true → parts_first rest ≡ true → parts_first (w ++ rest) ≡ true
still_parts [] rest e f = f
still_parts (b ∷ z) rest e f = e

-- before what parts
pub lexed_parted : {v w : List ℕ} {ms ns : List Mark} → IsLexed parts_first v ms → parts_first w ≡ true → IsLexed parts_first w ns → IsLexed parts_first (v ++ w) (ms ++ ns)
lexed_parted {w = w} a e b = lexed_both a b (λ rest f. still_parts w rest e f)

-- the same text and tokens, said otherwise
pub lexed_as : {f : List ℕ → Bool} {v w : List ℕ} {ms ns : List Mark} → v ≡ w → ms ≡ ns → IsLexed f v ms → IsLexed f w ns
lexed_as {f} {v} {w} {ms} {ns} e m a =
    let P : List ℕ → Type 0 = λ z. IsLexed f z ns in
    let Q : List Mark → Type 0 = λ z. IsLexed f v z in
    subst P e (subst Q m a)

-- passing over the bytes of a token
passed_over : (z rest : List ℕ) (at : ℕ) → tokens_from (length z) at (z ++ rest) ≡ tokens_from 0 (at + length z) rest
passed_over [] rest at = same_place at (at + 0) rest (omega arith)
passed_over (b ∷ z) rest at = passed_over z rest (at + 1) ∙ same_place ((at + 1) + length z) (at + length (b ∷ z)) rest (omega arith)

-- a token that stays what it is before such a rest
pub one_token : {f : List ℕ → Bool} (kind : TokenKind) (b : ℕ) (z : List ℕ)
    → ((rest : List ℕ) → f rest ≡ true → front_of (b ∷ z ++ rest) ≡ front.Whole kind (suc (length z))) → IsLexed f (b ∷ z) ((kind_of kind (b ∷ z), b ∷ z) ∷ [])
one_token {f} kind b z stays = record {
  tokens_at = λ at. record { kind = kind; at = at; end = at + suc (length z) } ∷ [];
  lexes = λ at rest p.
      let size : suc (length z) - 1 ≡ length z = omega arith in
      let place : (at + 1) + length z ≡ at + length (b ∷ z) = omega arith in
      let this : List Token = record { kind = kind; at = at; end = at + suc (length z) } ∷ [] in
      ap (λ x. lexed_after x at (λ passed. tokens_from passed (at + 1) (z ++ rest))) (stays rest p)
      ∙ ap (λ n. with_front this (tokens_from n (at + 1) (z ++ rest))) size
      ∙ ap (with_front this) (passed_over z rest (at + 1) ∙ same_place ((at + 1) + length z) (at + length (b ∷ z)) rest place);
  marks_are = λ base left right.
      ap (λ p. (kind_of kind p, p) ∷ []) (part_is base (suc (length z)) left ((b ∷ z) ++ right) ∙ take-append_seam (b ∷ z) right);
}

-- a text that is lexed so has these tokens
pub whole_lexed : (w : List ℕ) (ms : List Mark) → IsLexed parts_first w ms → (base : ℕ) → (ts : List Token) × (tokens base w ≡ Ok ts) × (map mark_of (map (seen w base) ts) ≡ ms)
unfolding tokens
whole_lexed w ms a base =
    let here : base + 0 ≡ base = omega arith in
    let text : [] ++ (w ++ []) ≡ w = append-nil w in (
      a.tokens_at base ++ [],
      ap (tokens_from 0 base) (sym (append-nil w)) ∙ a.lexes base [] refl,
      ap (λ ts. map mark_of (map (seen w base) ts)) (append-nil (a.tokens_at base))
          ∙ ap (λ t. map mark_of (map (seen t base) (a.tokens_at base))) (sym text)
          ∙ ap (λ n. map mark_of (map (seen ([] ++ (w ++ [])) base) (a.tokens_at n))) (sym here)
          ∙ a.marks_are base [] [],
    )
