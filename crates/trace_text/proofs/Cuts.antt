-- A text, cut at its first space.
use Rattle.std.proofs.Common.{◌≡◌, ◌∙◌, ◌<◌, ◌+◌, ap, refl, arith, ℕ, Bool, true, ◌==◌, List, [], ◌∷◌, ◌++◌, length, get_or, take, drop, not}
use Rattle.std.proofs.lemmas.Bool.Decides.{nat_tests}
use Rattle.std.proofs.Math.Seq.{drop-append-add, take-append_seam}
use Rattle.std.proofs.lemmas.Grind.{common_steps}
use Rattle.std.proofs.lemmas.List.Sums.{passes_at_first, split_at_first}
use Rattle.std.specs.List.{after_first, before_first, list_all, position_or_len}
use Rattle.text_lines.specs.Words.{has_space, is_space}

-- no byte is a space
abbrev pub is_word : List ℕ → Bool
is_word text = list_all (λ b. not (b == 32)) text

pub first_space : (word rest : List ℕ) → is_word word ≡ true → position_or_len is_space (word ++ 32 ∷ rest) ≡ length word
first_space [] rest h = refl
first_space (c ∷ cs) rest h = grind (arith, nat_tests, common_steps, first_space cs rest)

pub space_found : (word rest : List ℕ) → is_word word ≡ true → has_space (word ++ 32 ∷ rest) ≡ true
space_found word rest h =
    let at = first_space word rest h in
    let within : position_or_len is_space (word ++ 32 ∷ rest) < length (word ++ 32 ∷ rest) = grind (arith, common_steps, at) in
    grind (arith, nat_tests, within)

pub before_space : (word rest : List ℕ) → is_word word ≡ true → before_first is_space (word ++ 32 ∷ rest) ≡ word
before_space word rest h = ap (λ n. take n (word ++ 32 ∷ rest)) (first_space word rest h) ∙ take-append_seam word (32 ∷ rest)

pub after_space : (word rest : List ℕ) → is_word word ≡ true → after_first is_space (word ++ 32 ∷ rest) ≡ rest
after_space word rest h = ap (λ n. drop (n + 1) (word ++ 32 ∷ rest)) (first_space word rest h) ∙ drop-append-add word (32 ∷ rest) 1

-- what is cut is the two parts with a space between them
pub text_cut : (text : List ℕ) → has_space text ≡ true → text ≡ before_first is_space text ++ 32 ∷ after_first is_space text
text_cut text h =
    let within : position_or_len is_space text < length text = grind (arith, nat_tests, h) in
    let space : get_or text (position_or_len is_space text) 0 ≡ 32 = grind (arith, nat_tests, passes_at_first is_space text 0 within) in
    split_at_first is_space text 0 within ∙ ap (λ b. before_first is_space text ++ b ∷ after_first is_space text) space
