-- Passing over what stands at the front of a text, and the first token.
use Rattle.std.proofs.Common.{◌≡◌, ◌≤◌, ◌<◌, ℕ, ◌+◌, ◌-◌, List, [], ◌∷◌, ◌++◌, take, drop, length, append_assoc, Some, Ok, Err, IsOk, refl, sym, ap, ◌∙◌, arith}
use Rattle.std.proofs.lemmas.List.{drop-drop}
use Rattle.pgql_lexer.specs.declared.token.Token.{Token}
use Rattle.pgql_lexer.specs.declared.token.TokenKind.{TokenKind}
use Rattle.pgql_lexer.specs.declared.token.LexFault.{LexFault}
use Rattle.pgql_lexer.specs.declared.fronts.Front.{Front}
use Rattle.pgql_lexer.specs.declared.fronts.Front.TheVariants as front
use Rattle.pgql_lexer.specs.Fronts.{Bytes, front_of}
use Rattle.pgql_lexer.specs.Tokens.{Lexed, IsFirst, lexed_after, tokens, tokens_from, with_front}
use Rattle.pgql_lexer.proofs.Steps.{tokens_from-drop, tokens_from-front, drop-one, take-drop_rest}

with_front_both : (a b : List Token) (o : Lexed) → with_front a (with_front b o) ≡ with_front (a ++ b) o
with_front_both a b (Ok more) = ap Ok (sym (append_assoc a b more))
with_front_both a b (Err e) = refl

-- what is found after a token
abbrev pub Passes : List Token → ℕ → Front → ℕ → Type 0
Passes found count front place = (more : List Token) × ((rest : ℕ → Lexed) → with_front found (lexed_after front place rest) ≡ with_front more (rest (count - 1)))

pub passes_gap : (found : List Token) (count place : ℕ) → Passes found count (front.Gap count) place
passes_gap found count place = (found, λ rest. refl)

pub passes_token : (found : List Token) (kind : TokenKind) (count place : ℕ) → Passes found count (front.Whole kind count) place
passes_token found kind count place =
    let token : Token = record { kind = kind; at = place; end = place + count } in
    (found ++ token ∷ [], λ rest. with_front_both found (token ∷ []) (rest (count - 1)))

-- a text of which nothing is left has the tokens that were found
pub all_passed : (whole : Lexed) (found : List Token) (place : ℕ) (rest : Bytes) → length rest ≡ 0 → whole ≡ with_front found (tokens_from 0 place rest) → (all : List Token) × (whole ≡ Ok all)
all_passed whole found place [] none so_far = (found ++ [], so_far)
all_passed whole found place (byte ∷ rest) none so_far = absurd (omega arith)

-- the first reason why there are none
pub stops : (whole : Lexed) (found : List Token) (place : ℕ) (rest : Bytes) (e : LexFault) → 0 < length rest → whole ≡ with_front found (tokens_from 0 place rest)
    → ((more : ℕ → Lexed) → lexed_after (front_of rest) place more ≡ Err e) → whole ≡ Err e
stops whole found place rest e some so_far told = so_far ∙ ap (with_front found) (tokens_from-front place rest some ∙ told (λ passed. tokens_from passed (place + 1) (drop 1 rest)))

-- the text after the bytes at its front
pub behind : (count place : ℕ) (text : Bytes) → 1 ≤ count → tokens_from (count - 1) (place + 1) (drop 1 text) ≡ tokens_from 0 (place + count) (drop count text)
behind count place text some =
    let place_after : (place + 1) + (count - 1) ≡ place + count = omega arith in
    tokens_from-drop (count - 1) (place + 1) (drop 1 text)
    ∙ ap (λ p. tokens_from 0 p (drop (count - 1) (drop 1 text))) place_after
    ∙ ap (tokens_from 0 (place + count)) (drop-one count text some)

pub gap_passed : (whole : Lexed) (count place : ℕ) (text : Bytes) → 0 < length text → 1 ≤ count → whole ≡ tokens_from 0 place text → front_of text ≡ front.Gap count
    → whole ≡ tokens_from 0 (place + count) (take (length text - count) (drop count text))
gap_passed whole count place text some moves so_far is =
    so_far
    ∙ tokens_from-front place text some
    ∙ ap (λ f. lexed_after f place (λ passed. tokens_from passed (place + 1) (drop 1 text))) is
    ∙ behind count place text moves
    ∙ ap (tokens_from 0 (place + count)) (sym (take-drop_rest count text))

pub still_here : (begin place count : ℕ) (text rest : Bytes) → begin ≤ place → rest ≡ drop (place - begin) text
    → take (length rest - count) (drop count rest) ≡ drop (place + count - begin) text
still_here begin place count text rest low here =
    let size : (place - begin) + count ≡ place + count - begin = omega arith in
    take-drop_rest count rest ∙ ap (drop count) here ∙ drop-drop count (place - begin) text ∙ ap (λ n. drop n text) size

pub here_at_first : (place : ℕ) (text : Bytes) → text ≡ drop (place - place) text
here_at_first place text = let none : 0 ≡ place - place = omega arith in ap (λ n. drop n text) none

pub same_at_first : (place : ℕ) (text : Bytes) → tokens place text ≡ tokens_from 0 place text
unfolding tokens
same_at_first place text = refl

not_ok : (whole : Lexed) (e : LexFault) → whole ≡ Err e → IsOk whole → ⊥
not_ok (Ok found) e is ok = cc
not_ok (Err f) e is ok = cc

-- a text that has tokens begins with a gap or a token
pub no_fault : (whole : Lexed) (place : ℕ) (text : Bytes) → 0 < length text → IsOk whole → whole ≡ tokens_from 0 place text
    → ((count : ℕ) → front_of text ≡ front.Gap count → ⊥) → ((kind : TokenKind) (count : ℕ) → front_of text ≡ front.Whole kind count → ⊥) → ⊥
no_fault whole place text some ok so_far no_gap no_token = by_front (front_of text) refl
  where
    here : (f : Front) → front_of text ≡ f → whole ≡ lexed_after f place (λ passed. tokens_from passed (place + 1) (drop 1 text))
    here f is = so_far ∙ tokens_from-front place text some ∙ ap (λ f. lexed_after f place (λ passed. tokens_from passed (place + 1) (drop 1 text))) is

    by_front : (f : Front) → front_of text ≡ f → ⊥
    by_front (front.Gap count) is = no_gap count is
    by_front (front.Whole kind count) is = no_token kind count is
    by_front (front.BadCharacter count) is = not_ok whole _ (here (front.BadCharacter count) is) ok
    by_front front.OpenText is = not_ok whole _ (here front.OpenText is) ok
    by_front front.OpenComment is = not_ok whole _ (here front.OpenComment is) ok
    by_front front.WideNumber is = not_ok whole _ (here front.WideNumber is) ok

parts_of : (token : Token) (o : Lexed) (whole : Lexed) → whole ≡ with_front (token ∷ []) o → IsOk whole → (more : List Token) × (whole ≡ Ok (token ∷ more)) × (o ≡ Ok more)
parts_of token (Ok more) whole is ok = (more, is, refl)
parts_of token (Err e) whole is ok = absurd (not_ok whole e is ok)

-- the first token, with nothing but gaps before it
pub first_found : (begin place count : ℕ) (kind : TokenKind) (text rest : Bytes) → begin ≤ place → rest ≡ drop (place - begin) text → place + length rest ≡ begin + length text
    → 0 < length rest → 1 ≤ count → count ≤ length rest → IsOk (tokens begin text) → tokens begin text ≡ tokens_from 0 place rest → front_of rest ≡ front.Whole kind count
    → IsFirst begin text (Some (record { kind = kind; at = place; end = place + count }))
unfolding tokens
first_found begin place count kind text rest low here left some moves fits ok so_far is =
    let token : Token = record { kind = kind; at = place; end = place + count } in
    let whole : tokens begin text ≡ with_front (token ∷ []) (tokens_from 0 (place + count) (drop count rest)) =
    so_far
    ∙ tokens_from-front place rest some
    ∙ ap (λ f. lexed_after f place (λ passed. tokens_from passed (place + 1) (drop 1 rest))) is
    ∙ ap (with_front (token ∷ [])) (behind count place rest moves) in
    let parts = parts_of token (tokens_from 0 (place + count) (drop count rest)) (tokens begin text) whole ok in
    let size : (place - begin) + count ≡ place + count - begin = omega arith in
    let same : drop count rest ≡ drop (place + count - begin) text = ap (drop count) here ∙ drop-drop count (place - begin) text ∙ ap (λ n. drop n text) size in
    (parts.0, parts.1, ap (tokens_from 0 (place + count)) (sym same) ∙ parts.2, (low, omega arith, omega arith))

pub none_left : (begin place : ℕ) (text rest : Bytes) → length rest ≡ 0 → tokens begin text ≡ tokens_from 0 place rest → tokens begin text ≡ Ok []
none_left begin place text [] none so_far = so_far
none_left begin place text (byte ∷ rest) none so_far = absurd (omega arith)
