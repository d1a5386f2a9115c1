-- What a command's options are by what `clap` found in the words.
use Rattle.std.specs.Prelude.{ℕ, List, [], ◌∷◌, Option, Some, None, option_and_then}
use Rattle.clap.specs.Words.{Row, first_of}
use Rattle.cli_words.specs.Defaults.{options_at_first}
use Rattle.cli_words.specs.Line.{long_name}
use Rattle.cli_words.specs.Rows.{file_word_name, file_words_of, settings_of}
use Rattle.cli_words.specs.Values.{with_file_word, with_setting}
use Rattle.cli_words.specs.declared.command.Command.{Command}
use Rattle.cli_words.specs.declared.options.Options.{Options}
use Rattle.cli_words.specs.declared.file_word.FileWord.{FileWord}
use Rattle.cli_words.specs.declared.setting.Setting.{Setting}

-- the options with what was found for each of the file words, in their order
abbrev pub with_files_found : List FileWord → List Row → Options → Option Options
with_files_found [] rows options = Some options
with_files_found (file ∷ files) rows options = option_and_then (with_files_found files rows)
    (option_and_then (λ text. with_file_word file text options) (first_of (file_word_name file) rows))

-- the options with a value, if there is one
abbrev pub with_value : Setting → Option (List ℕ) → Options → Option Options
with_value setting None options = Some options
with_value setting (Some text) options = with_setting setting text options

-- the options with what was found for each of these
abbrev pub with_settings_found : List Setting → List Row → Options → Option Options
with_settings_found [] rows options = Some options
with_settings_found (setting ∷ settings) rows options = option_and_then (with_settings_found settings rows)
    (with_value setting (first_of (long_name setting) rows) options)

-- what was found for a command's file words, and then for its options
abbrev pub options_found : Command → List Row → Option Options
options_found command rows = option_and_then (with_settings_found (settings_of command) rows)
    (with_files_found (file_words_of command) rows (options_at_first command))
