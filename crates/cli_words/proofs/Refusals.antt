-- A refusal comes at the first word with which no command line goes on.
use Rattle.std.proofs.Common.{◌≡◌, ◌∙◌, ◌+◌, ◌<◌, ◌≤◌, ◌++◌, arith, refl, sym, subst, ap, ℕ, suc, List, [], ◌∷◌, length, take, codes, Option, Some, None, Result, Ok, Err}
use Rattle.std.proofs.lemmas.Bool.{false≢true}
use Rattle.std.specs.Prelude.{IsOk, ok_or}
use Rattle.cli_words.specs.Form.{read_word, read_on, read_after, options_of, finished}
use Rattle.cli_words.specs.Laws.{IsFirstRefused}
use Rattle.cli_words.specs.Rows.{command_named}
use Rattle.cli_words.specs.Said.{Said, at_first}
use Rattle.cli_words.specs.declared.command.Command.{Command}
use Rattle.cli_words.specs.declared.options.Options.{Options}
use Rattle.cli_words.proofs.Completions.{read_on-some, read_on-none, complete}

-- the words are refused `later` words on
record IsRefusedAt (words : List (List ℕ)) (place : ℕ) (said : Said) (later : ℕ) : Type 0 where
  within : later ≤ length words
  ends_there : later < length words → (more : List (List ℕ)) → read_on (take (suc later) words ++ more) place said ≡ Err (place + later)
  goes_on_before : (more : List (List ℕ)) × IsOk (read_on (take later words ++ more) place said)

abbrev error_of : Result Options ℕ → ℕ
error_of (Ok options) = 0
error_of (Err place) = place

abbrev refusal : ℕ → Result Options ℕ
refusal place = Err place

same_place : (place other : ℕ) → refusal place ≡ refusal other → other ≡ place
same_place place other e = sym (ap (λ r. error_of r) e)

finished_place : (options : Option Options) (place at : ℕ) → ok_or options place ≡ Err at → at ≡ place
finished_place None place at e = same_place place at e
finished_place (Some options) place at e = absurd (false≢true (subst (λ (r : Result Options ℕ). IsOk r) e refl))

refused_step : (word : List ℕ) (words : List (List ℕ)) (place : ℕ) (said : Said) (at : ℕ)
    → ((next : Said) → read_on words (place + 1) next ≡ Err at → (later : ℕ) × (at ≡ place + 1 + later) × IsRefusedAt words (place + 1) next later)
    → (read : Option Said) → read_word word said ≡ read → read_on (word ∷ words) place said ≡ Err at
    → (later : ℕ) × (at ≡ place + later) × IsRefusedAt (word ∷ words) place said later
refused_step word words place said at rest None is e =
    let here : at ≡ place = same_place place at (sym (read_on-none word words place said is) ∙ e) in
    let same : place ≡ place + 0 = omega arith in (
      0,
      here ∙ same,
      record {
        within = omega arith;
        ends_there = λ below more. read_on-none word more place said is ∙ ap (λ n. Err n) same;
        goes_on_before = complete said place;
      },
    )
refused_step word words place said at rest (Some next) is e =
    let inner = rest next (sym (read_on-some word words place said next is) ∙ e) in
    let same : place + 1 + inner.0 ≡ place + suc inner.0 = omega arith in
    let inside : inner.0 ≤ length words = inner.2.within in (
      suc inner.0,
      inner.1 ∙ same,
      record {
        within = omega arith;
        ends_there = λ below more.
            let before : inner.0 < length words = omega arith in
            read_on-some word (take (suc inner.0) words ++ more) place said next is ∙ (inner.2.ends_there before more ∙ ap (λ n. Err n) same);
        goes_on_before =
            let on = inner.2.goes_on_before in
            (on.0, subst (λ (r : Result Options ℕ). IsOk r) (sym (read_on-some word (take inner.0 words ++ on.0) place said next is)) on.1);
      },
    )

refused : (words : List (List ℕ)) (place : ℕ) (said : Said) (at : ℕ) → read_on words place said ≡ Err at
    → (later : ℕ) × (at ≡ place + later) × IsRefusedAt words place said later
refused [] place said at e =
    let here : at ≡ place = finished_place (finished said) place at e in
    let same : place ≡ place + 0 = omega arith in (
      0,
      here ∙ same,
      record {
        within = omega arith;
        ends_there = λ below more. absurd (omega arith);
        goes_on_before = complete said place;
      },
    )
refused (word ∷ words) place said at e =
    refused_step word words place said at (λ next. refused words (place + 1) next at) (read_word word said) refl e

first_step : (word : List ℕ) (words : List (List ℕ)) (place : ℕ) (command : Option Command) → command_named word ≡ command
    → read_after command words ≡ Err place → IsFirstRefused (word ∷ words) place
first_step word words place None is e =
    subst (λ n. IsFirstRefused (word ∷ words) n) (sym (same_place 0 place e)) (record {
      within = omega arith;
      ends_there = λ below more. ap (λ command. read_after command more) is;
      goes_on_before = (codes "help" ∷ [], refl);
    })
first_step word words place (Some command) is e =
    let first = refused words 1 (at_first command) place e in
    let same : 1 + first.0 ≡ suc first.0 = omega arith in
    let inside : first.0 ≤ length words = first.2.within in
    subst (λ n. IsFirstRefused (word ∷ words) n) (sym (first.1 ∙ same)) (record {
      within = omega arith;
      ends_there = λ below more.
          let before : first.0 < length words = omega arith in
          let one_more : suc first.0 + 1 ≡ suc (suc first.0) = omega arith in
          ap (λ n. options_of (take n (word ∷ words) ++ more)) one_more
          ∙ (ap (λ named. read_after named (take (suc first.0) words ++ more)) is ∙ (first.2.ends_there before more ∙ ap (λ n. Err n) same));
      goes_on_before =
          let on = first.2.goes_on_before in
          (on.0, subst (λ (r : Result Options ℕ). IsOk r) (sym (ap (λ named. read_after named (take first.0 words ++ on.0)) is)) on.1);
    })

pub first_refused : (words : List (List ℕ)) (place : ℕ) → options_of words ≡ Err place → IsFirstRefused words place
first_refused [] place e =
    subst (λ n. IsFirstRefused [] n) (sym (same_place 0 place e)) (record {
      within = omega arith;
      ends_there = λ below more. absurd (omega arith);
      goes_on_before = (codes "help" ∷ [], refl);
    })
first_refused (word ∷ words) place e = first_step word words place (command_named word) refl e
