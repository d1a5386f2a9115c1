-- Which words make a command line, what it says, and from which word on none goes on.
use Rattle.std.specs.Prelude.{ℕ, ◌+◌, ◌==◌, List, [], ◌∷◌, Option, Some, None, Result, Err, position, slice_get, slice_index, ok_or, option_and_then, if◌then◌else◌}
use Rattle.std.specs.List.{remove}
use Rattle.std.specs.Option.{option_map}
use Rattle.std.specs.Str.{bytes_eq}
use Rattle.cli_words.specs.Rows.{command_named, setting_name}
use Rattle.cli_words.specs.Said.{Said, at_first}
use Rattle.cli_words.specs.Values.{cut_at, with_setting, with_file_word}
use Rattle.cli_words.specs.declared.command.Command.{Command}
use Rattle.cli_words.specs.declared.options.Options.{Options}
use Rattle.cli_words.specs.declared.file_word.FileWord.{FileWord}
use Rattle.cli_words.specs.declared.setting.Setting.{Setting}

-- the word is the value of this option
abbrev pub read_value : Setting → List ℕ → Said → Option Said
read_value setting word said = option_map (λ options. record said { options = options; awaited = None }) (with_setting setting word said.options)

-- the word names this option; its value stands after an equals sign, or is the next word
abbrev pub read_named : Option (List ℕ) → Setting → Said → Option Said
read_named None setting said = Some (record said { awaited = Some setting })
read_named (Some value) setting said = read_value setting value said

-- the option at this place of those that may still come
abbrev pub read_at : Option (List ℕ) → Said → ℕ → Option Said
read_at value said place = option_and_then (λ setting. read_named value setting (record said { left = remove said.left place })) (slice_get said.left place)

-- where the option of a name stands among those that may still come
abbrev pub place_of : List ℕ → List Setting → Option ℕ
place_of name left = position (λ setting. bytes_eq (setting_name setting) name) left

abbrev pub read_cut : List ℕ × Option (List ℕ) → Said → Option Said
read_cut parts said = option_and_then (read_at parts.1 said) (place_of parts.0 said.left)

-- the word is an option, `--name` or `--name=value`
abbrev pub read_option : List ℕ → Said → Option Said
read_option word said = read_cut (cut_at 61 word) said

-- the word is the first of the file words that must still come
abbrev pub read_file_as : List FileWord → List ℕ → Said → Option Said
read_file_as [] word said = None
read_file_as (file ∷ files) word said = option_map (λ options. record said { options = options; missing = files }) (with_file_word file word said.options)

abbrev pub read_file : List ℕ → Said → Option Said
read_file word said = read_file_as said.missing word said

abbrev pub read_by : Option Setting → List ℕ → Said → Option Said
read_by (Some setting) word said = read_value setting word said
read_by None word said = if slice_index word 0 == 45 then read_option word said else read_file word said

-- what is said after one more word, where a command line goes on with it
abbrev pub read_word : List ℕ → Said → Option Said
read_word word said = read_by said.awaited word said

abbrev pub finished_by : Option Setting → List FileWord → Options → Option Options
finished_by None [] options = Some options
finished_by None (file ∷ files) options = None
finished_by (Some setting) files options = None

-- the options, where no word is missing
abbrev pub finished : Said → Option Options
finished said = finished_by said.awaited said.missing said.options

-- the words after the first `place` words, where those said this
abbrev pub read_on : List (List ℕ) → ℕ → Said → Result Options ℕ
read_on [] place said = ok_or (finished said) place
read_on (word ∷ words) place said = elim (read_word word said) [
  | None ↦ Err place
  | Some next ↦ read_on words (place + 1) next
]

abbrev pub read_after : Option Command → List (List ℕ) → Result Options ℕ
read_after None words = Err 0
read_after (Some command) words = read_on words 1 (at_first command)

-- The options that the words of a command line say; or the place, from 0, of the first word with which no
-- command line goes on; or the number of words where some are missing.
abbrev pub options_of : List (List ℕ) → Result Options ℕ
options_of [] = Err 0
options_of (word ∷ words) = read_after (command_named word) words
