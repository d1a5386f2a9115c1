-- One thing at the front of the text further, or the first reason to stop.
use Rattle.std.proofs.Common.{◌≡◌, ◌≢◌, ◌≤◌, ◌<◌, ℕ, zero, suc, ◌+◌, ◌-◌, List, [], ◌∷◌, take, drop, length, length-drop, Ok, Err, refl, sym, ap, ◌∙◌, arith}
use Rattle.pgql_lexer.specs.declared.token.Token.{Token}
use Rattle.pgql_lexer.specs.declared.token.LexFault.{LexFault}
use Rattle.pgql_lexer.specs.declared.token.LexFault.TheVariants as fault
use Rattle.pgql_lexer.specs.Fronts.{Bytes, front_of}
use Rattle.pgql_lexer.specs.Tokens.{Lexed, tokens, tokens_from, with_front, lexed_after, Gives}

-- passing bytes over is dropping them
pub tokens_from-drop : (passed place : ℕ) (text : Bytes) → tokens_from passed place text ≡ tokens_from 0 (place + passed) (drop passed text)
tokens_from-drop zero place text = let same : place ≡ place + 0 = omega arith in ap (λ p. tokens_from 0 p text) same
tokens_from-drop (suc passed) place [] = refl
tokens_from-drop (suc passed) place (byte ∷ text) =
    let same : (place + 1) + passed ≡ place + suc passed = omega arith in
    tokens_from-drop passed (place + 1) text ∙ ap (λ p. tokens_from 0 p (drop passed text)) same

pub tokens_from-front : (place : ℕ) (text : Bytes) → 0 < length text → tokens_from 0 place text ≡ lexed_after (front_of text) place (λ passed. tokens_from passed (place + 1) (drop 1 text))
tokens_from-front place [] some = absurd (omega arith)
tokens_from-front place (byte ∷ text) some = refl

drop-nil : (count : ℕ) → drop {A = ℕ} count [] ≡ []
drop-nil zero = refl
drop-nil (suc count) = refl

pub take-all : (count : ℕ) (text : Bytes) → length text ≤ count → take count text ≡ text
take-all zero [] enough = refl
take-all (suc count) [] enough = refl
take-all zero (byte ∷ text) enough = absurd (omega arith)
take-all (suc count) (byte ∷ text) enough = ap (λ rest. byte ∷ rest) (take-all count text (omega arith))

pub drop-one : (count : ℕ) (text : Bytes) → 1 ≤ count → drop (count - 1) (drop 1 text) ≡ drop count text
drop-one zero text some = absurd (omega arith)
drop-one (suc count) [] some = drop-nil (suc count - 1)
drop-one (suc count) (byte ∷ text) some = let same : suc count - 1 ≡ count = omega arith in ap (λ n. drop n text) same

-- a slice from a place on is what is left after it
pub take-drop_rest : (count : ℕ) (text : Bytes) → take (length text - count) (drop count text) ≡ drop count text
take-drop_rest count text = take-all (length text - count) (drop count text) (omega (arith, length-drop count text))

-- the tokens found so far, and those of the text that is left after the next front
pub tokens-step : (whole : Lexed) (old new : List Token) (place count : ℕ) (text : Bytes) → 0 < length text → 1 ≤ count → whole ≡ with_front old (tokens_from 0 place text)
    → ((rest : ℕ → Lexed) → with_front old (lexed_after (front_of text) place rest) ≡ with_front new (rest (count - 1)))
    → whole ≡ with_front new (tokens_from 0 (place + count) (take (length text - count) (drop count text)))
tokens-step whole old new place count text some moves so_far added =
    let place_after : (place + 1) + (count - 1) ≡ place + count = omega arith in
    so_far
    ∙ ap (with_front old) (tokens_from-front place text some)
    ∙ added (λ passed. tokens_from passed (place + 1) (drop 1 text))
    ∙ ap (with_front new)
    (tokens_from-drop (count - 1) (place + 1) (drop 1 text)
    ∙ ap (λ p. tokens_from 0 p (drop (count - 1) (drop 1 text))) place_after
    ∙ ap (tokens_from 0 (place + count)) (drop-one count text moves ∙ sym (take-drop_rest count text)))

-- the first reason why there are none
pub tokens-stop : (whole : Lexed) (old : List Token) (place : ℕ) (text : Bytes) (e : LexFault) → 0 < length text → whole ≡ with_front old (tokens_from 0 place text)
    → (e ≢ fault.NoMemory → (rest : ℕ → Lexed) → lexed_after (front_of text) place rest ≡ Err e) → Gives {X = List Token} (λ found. found) (Err e) whole
tokens-stop whole old place text (fault.BadCharacter p) some so_far stops = so_far ∙ ap (with_front old) (tokens_from-front place text some ∙ stops (λ same. cc) (λ passed. tokens_from passed (place + 1) (drop 1 text)))
tokens-stop whole old place text (fault.OpenText p) some so_far stops = so_far ∙ ap (with_front old) (tokens_from-front place text some ∙ stops (λ same. cc) (λ passed. tokens_from passed (place + 1) (drop 1 text)))
tokens-stop whole old place text (fault.OpenComment p) some so_far stops = so_far ∙ ap (with_front old) (tokens_from-front place text some ∙ stops (λ same. cc) (λ passed. tokens_from passed (place + 1) (drop 1 text)))
tokens-stop whole old place text (fault.WideNumber p) some so_far stops = so_far ∙ ap (with_front old) (tokens_from-front place text some ∙ stops (λ same. cc) (λ passed. tokens_from passed (place + 1) (drop 1 text)))
tokens-stop whole old place text fault.NoMemory some so_far stops = tt

with_front-nil : (whole : Lexed) → whole ≡ with_front [] whole
with_front-nil (Ok found) = refl
with_front-nil (Err e) = refl

-- none is found at first
pub tokens-start : (base : ℕ) (text : Bytes) (none : List Token) → none ≡ [] → tokens base text ≡ with_front none (tokens_from 0 base text)
unfolding tokens
tokens-start base text none same = with_front-nil (tokens_from 0 base text) ∙ ap (λ found. with_front found (tokens_from 0 base text)) (sym same)

pub place-step : (place count all : ℕ) (text : Bytes) → place + length text ≡ all → count ≤ length text → (place + count) + length (take (length text - count) (drop count text)) ≡ all
place-step place count all text so_far within = rw (take-drop_rest count text, length-drop count text) (omega arith)
