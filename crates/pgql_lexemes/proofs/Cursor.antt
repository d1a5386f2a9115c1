-- The tokens of a text as its first one and those of the text after it.
use Rattle.std.proofs.Common.{◌≡◌, ◌≤◌, ◌<◌, ◌^◌, ℕ, ◌+◌, ◌-◌, List, [], ◌∷◌, take, drop, length, length-drop, map, Option, Some, None, Ok, Err, IsOk, refl, sym, ap, ◌∙◌, subst, arith}
use Rattle.std.specs.List.{AllByRecursion}
use Rattle.std.proofs.lemmas.List.{drop-drop}
use Rattle.pgql_lexer.specs.declared.token.Token.{Token}
use Rattle.pgql_lexer.specs.Tokens.{IsFirst, Lexed, tokens}
use Rattle.pgql_lexer.proofs.Steps.{take-drop_rest}
use Rattle.pgql_lexemes.specs.Lexemes.{Lexeme}
use Rattle.pgql_lexemes.specs.Parsers.{first}
use Rattle.pgql_lexemes.specs.Seen.{seen, seen_as, lexemes, tokens_or_none, onto, IsTokenOf}
use Rattle.pgql_lexemes.proofs.Sound.{StandsIn, all_stand, all_sound}

pub first_onto : (t : Option Lexeme) (ts : List Lexeme) → t ≡ first (onto t ts)
first_onto None ts = refl
first_onto (Some t) ts = refl

pub first_sound : (base : ℕ) (text : List ℕ) (t : Token) → IsFirst base text (Some t) → IsTokenOf text base t
first_sound base text t is = (all_sound base text (t ∷ is.0) is.1).0

-- a token that stands after some bytes is the same in the text after them
seen-drop : (base k : ℕ) (text : List ℕ) (t : Token) → base + k ≤ t.at → seen text base t ≡ seen (drop k text) (base + k) t
seen-drop base k text t le =
    let size : k + (t.at - (base + k)) ≡ t.at - base = omega arith in
    ap (λ bytes. seen_as t.kind (take (t.end - t.at) bytes) t.at) (sym (drop-drop (t.at - (base + k)) k text ∙ ap (λ n. drop n text) size))

all_seen-drop : (base k : ℕ) (text : List ℕ) (ts : List Token) → AllByRecursion (StandsIn (drop k text) (base + k)) ts → map (seen text base) ts ≡ map (seen (drop k text) (base + k)) ts
all_seen-drop base k text [] all = refl
all_seen-drop base k text (t ∷ ts) all =
    let at = all.0.at_is in
    let here : seen text base t ≡ seen (drop k text) (base + k) t = seen-drop base k text t (omega arith) in
    ap (λ u. u ∷ map (seen text base) ts) here ∙ ap (λ us. seen (drop k text) (base + k) t ∷ us) (all_seen-drop base k text ts all.1)

pub lexemes-tokens : (base : ℕ) (text : List ℕ) (ts : List Token) → tokens base text ≡ Ok ts → lexemes base text ≡ map (seen text base) ts
unfolding lexemes
lexemes-tokens base text ts is = ap (λ o. map (seen text base) (tokens_or_none o)) is

pub no_lexemes : (base : ℕ) (text : List ℕ) → IsFirst base text None → [] ≡ lexemes base text
no_lexemes base text is = sym (lexemes-tokens base text [] is)

-- the first token, and those of the text after it
pub lexemes-first : (base : ℕ) (text : List ℕ) (t : Token) (told : Lexeme) → told ≡ seen text base t → IsFirst base text (Some t)
    → told ∷ lexemes t.end (take (length text - (t.end - base)) (drop (t.end - base) text)) ≡ lexemes base text
lexemes-first base text t told same is =
    let k = t.end - base in
    let le = is.3.0 in
    let lt = is.3.1 in
    let end : base + k ≡ t.end = omega arith in
    let rest : take (length text - k) (drop k text) ≡ drop k text = take-drop_rest k text in
    let stand : AllByRecursion (StandsIn (drop k text) (base + k)) is.0 =
    subst (λ n. AllByRecursion (StandsIn (drop k text) n) is.0) (sym end) (all_stand t.end (drop k text) is.0 is.2) in
    let behind : lexemes t.end (drop k text) ≡ map (seen text base) is.0 =
    lexemes-tokens t.end (drop k text) is.0 is.2 ∙ ap (λ n. map (seen (drop k text) n) is.0) (sym end) ∙ sym (all_seen-drop base k text is.0 stand) in
    ap (λ us. told ∷ us) (ap (lexemes t.end) rest ∙ behind) ∙ ap (λ u. u ∷ map (seen text base) is.0) same ∙ sym (lexemes-tokens base text (t ∷ is.0) is.1)

pub still_short : (base : ℕ) (text : List ℕ) (t : Token) → base + length text < 2 ^ 32 → IsFirst base text (Some t)
    → t.end + length (take (length text - (t.end - base)) (drop (t.end - base) text)) < 2 ^ 32
still_short base text t short is =
    let le = is.3.0 in
    let lt = is.3.1 in
    let high = is.3.2 in
    rw (take-drop_rest (t.end - base) text, length-drop (t.end - base) text) (omega arith)

pub lexed_ok : (o : Lexed) (ts : List Token) → o ≡ Ok ts → IsOk o
lexed_ok (Ok found) ts is = refl
lexed_ok (Err e) ts is = cc

pub still_lexed : (base : ℕ) (text : List ℕ) (t : Token) → IsFirst base text (Some t)
    → IsOk (tokens t.end (take (length text - (t.end - base)) (drop (t.end - base) text)))
still_lexed base text t is = rw (take-drop_rest (t.end - base) text) (lexed_ok (tokens t.end (drop (t.end - base) text)) is.0 is.2)
