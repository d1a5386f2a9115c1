-- The first of some words, and those after it.
use Rattle.std.proofs.Common.{◌≡◌, ◌∙◌, ◌+◌, ◌-◌, ◌<◌, ◌≤◌, arith, sym, ap, ℕ, zero, suc, List, [], ◌∷◌, map, drop, take, length, refl, Some, option_map}
use Rattle.std.proofs.lemmas.List.{take_all}
use Rattle.std.specs.List.{slice_index_or}
use Rattle.cli_words.specs.FormOnly.{form_only, place_refused}
use Rattle.cli_words.specs.Form.{options_of, read_after, read_on, read_word}
use Rattle.cli_words.specs.Rows.{command_named}
use Rattle.cli_words.specs.Said.{Said, at_first}
use Rattle.cli_words.specs.declared.command.Command.{Command}
use Rattle.cli_words.proofs.FormReading.{goes_on}

-- the words from the next one on
pub next_word : {X : Type 0} (text : X → List ℕ) (words : List X) (i : ℕ) (word : X) → i < length words → word ≡ slice_index_or words i word
    → text word ∷ map text (drop (i + 1) words) ≡ map text (drop i words)
next_word text [] i word below is = absurd (omega arith)
next_word text (w ∷ words) zero word below is = ap (λ x. text x ∷ map text words) is
next_word text (w ∷ words) (suc i) word below is =
    let one : suc i + 1 ≡ suc (i + 1) = omega arith in
    let fewer : i < length words = omega arith in
    ap (λ n. text word ∷ map text (drop n (w ∷ words))) one ∙ next_word text words i word fewer is

-- the word goes on, so those from it on are refused where those after it are
pub word_goes_on : {X : Type 0} (text : X → List ℕ) (words : List X) (i place : ℕ) (word : X) (name : List ℕ) (said next : Said) → i < length words
    → word ≡ slice_index_or words i word → name ≡ text word → Some next ≡ option_map form_only (read_word name said)
    → place_refused (read_on (map text (drop (i + 1) words)) (place + 1) next) ≡ place_refused (read_on (map text (drop i words)) place said)
word_goes_on text words i place word name said next below is named e =
    goes_on name (map text (drop (i + 1) words)) place said next e
    ∙ ap (λ rest. place_refused (read_on rest place said)) (ap (λ t. t ∷ map text (drop (i + 1) words)) named ∙ next_word text words i word below is)

-- all the words after the first
pub all_after_first : {X : Type 0} (words : List X) → take (length words - 1) (drop 1 words) ≡ drop 1 words
all_after_first [] = refl
all_after_first (w ∷ words) =
    let long : length words ≤ length (w ∷ words) - 1 = omega arith in
    take_all (length (w ∷ words) - 1) words long

-- the words of a command
pub after_command : {X : Type 0} (text : X → List ℕ) (words : List X) (first : X) (name : List ℕ) (command : Command) → 1 ≤ length words
    → first ≡ slice_index_or words 0 first → name ≡ text first → Some command ≡ command_named name
    → options_of (map text words) ≡ read_on (map text (drop 1 words)) 1 (at_first command)
after_command text [] first name command some is named e = absurd (omega arith)
after_command text (w ∷ words) first name command some is named e =
    ap (λ o. read_after o (map text words)) (ap command_named (sym (ap text is)) ∙ (ap command_named (sym named) ∙ sym e))
