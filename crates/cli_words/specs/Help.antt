-- The help text.
use Rattle.std.specs.Prelude.{ℕ, List, [], ◌∷◌, ◌++◌, codes}
use Rattle.std.specs.List.{flat_map}
use Rattle.cli_words.specs.Rows.{commands, command_name, file_words_of, file_word_name, settings_of, setting_name}
use Rattle.cli_words.specs.declared.command.Command.{Command}
use Rattle.cli_words.specs.declared.file_word.FileWord.{FileWord}
use Rattle.cli_words.specs.declared.setting.Setting.{Setting}

-- after a space, the name of a file word
abbrev pub file_word_part : FileWord → List ℕ
file_word_part file = codes " " ++ file_word_name file

-- after a space, an option and where its value stands, in brackets
abbrev pub setting_part : Setting → List ℕ
setting_part setting = codes " [" ++ (setting_name setting ++ codes " VALUE]")

-- a command's line, with its line feed
abbrev pub command_line : Command → List ℕ
command_line command = command_name command ++ (flat_map file_word_part (file_words_of command) ++ (flat_map setting_part (settings_of command) ++ (10 ∷ [])))

-- a line for each command
abbrev pub help_text : List ℕ
help_text = flat_map command_line commands
