-- One more step of taking what was found.
use Rattle.std.proofs.Common.{◌≡◌, ◌∙◌, ◌+◌, ◌<◌, add-one, drop-cons, refl, sym, subst, ap, ℕ, List, ◌∷◌, drop, length, Option, Some, None, is_some, true≢false}
use Rattle.std.specs.List.{slice_index_or}
use Rattle.std.specs.Prelude.{IsSome, option_and_then}
use Rattle.clap.proofs.WalkLemmas.{first_value-rows}
use Rattle.clap.specs.Matches.{first_value}
use Rattle.clap.specs.Walk.{Row, Text, first_of, rows_of}
use Rattle.clap.specs.declared.parser.matches.Found.{Found}
use Rattle.cli_words.specs.Line.{long_name}
use Rattle.cli_words.specs.Rows.{file_word_name}
use Rattle.cli_words.specs.Taken.{with_files_found, with_settings_found, with_value}
use Rattle.cli_words.specs.Values.{with_file_word}
use Rattle.cli_words.specs.declared.options.Options.{Options}
use Rattle.cli_words.specs.declared.file_word.FileWord.{FileWord}
use Rattle.cli_words.specs.declared.setting.Setting.{Setting}

-- what `get_str` gives is the first value of the rows
pub got_first : (f : Found) (id name : Text) (r : Option Text) → r ≡ first_value f id → id ≡ name → r ≡ first_of name (rows_of f)
got_first f id name r is same = is ∙ (first_value-rows f id ∙ ap (λ t. first_of t (rows_of f)) same)

step_of : (xs : Option Options) (all : Option Options) (f : Options → Option Options) → option_and_then f xs ≡ all → IsSome all
    → IsSome xs × ((new : Options) → xs ≡ Some new → f new ≡ all)
step_of None all f e some = absurd (true≢false (sym (ap is_some e ∙ some)))
step_of (Some x) all f e some = (refl, λ new is. let same : x ≡ new = cc in ap f (sym same) ∙ e)

split_at : {X : Type 0} (xs : List X) (i : ℕ) (d : X) → i < length xs → drop i xs ≡ slice_index_or xs i d ∷ drop (i + 1) xs
split_at xs i d below = rw (add-one, drop-cons xs i d)

module _ (files : List FileWord) (i : ℕ) (d : FileWord) (rows : List Row) (options : Options) (all : Option Options) (below : i < length files)
    (so_far : with_files_found (drop i files) rows options ≡ all) (some : IsSome all) where
  file_step : with_files_found (slice_index_or files i d ∷ drop (i + 1) files) rows options ≡ all
  file_step = subst (λ xs. with_files_found xs rows options ≡ all) (split_at files i d below) so_far

  pub file_is_there : first_of (file_word_name (slice_index_or files i d)) rows ≡ None → ⊥
  file_is_there none =
      let step : None ≡ all = rw none at file_step in
      true≢false (sym (ap is_some step ∙ some))

  pub file_goes_on : (word : Text) → first_of (file_word_name (slice_index_or files i d)) rows ≡ Some word
      → IsSome (with_file_word (slice_index_or files i d) word options)
      × ((new : Options) → with_file_word (slice_index_or files i d) word options ≡ Some new → with_files_found (drop (i + 1) files) rows new ≡ all)
  file_goes_on word found = step_of (with_file_word (slice_index_or files i d) word options) all (with_files_found (drop (i + 1) files) rows) (rw found at file_step) some

module _ (settings : List Setting) (i : ℕ) (d : Setting) (rows : List Row) (options : Options) (all : Option Options) (below : i < length settings)
    (so_far : with_settings_found (drop i settings) rows options ≡ all) (some : IsSome all) where
  pub value_goes_on : (value : Option Text) → first_of (long_name (slice_index_or settings i d)) rows ≡ value
      → IsSome (with_value (slice_index_or settings i d) value options)
      × ((new : Options) → with_value (slice_index_or settings i d) value options ≡ Some new → with_settings_found (drop (i + 1) settings) rows new ≡ all)
  value_goes_on value found =
      let step : with_settings_found (slice_index_or settings i d ∷ drop (i + 1) settings) rows options ≡ all =
      subst (λ xs. with_settings_found xs rows options ≡ all) (split_at settings i d below) so_far in
      step_of (with_value (slice_index_or settings i d) value options) all (with_settings_found (drop (i + 1) settings) rows) (rw found at step) some
