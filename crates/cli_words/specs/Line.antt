-- The command line of a command, as `clap` is told of it.
use Rattle.std.specs.Prelude.{ℕ, true, List, [], ◌++◌, map, drop, Some}
use Rattle.clap.specs.Words.{App, Rule, new_rule}
use Rattle.clap.specs.Simple.{new_shape}
use Rattle.cli_words.specs.Rows.{command_name, file_word_name, file_words_of, setting_name, settings_of}
use Rattle.cli_words.specs.declared.command.Command.{Command}
use Rattle.cli_words.specs.declared.file_word.FileWord.{FileWord}
use Rattle.cli_words.specs.declared.setting.Setting.{Setting}

-- the name of an option, without its hyphens
abbrev pub long_name : Setting → List ℕ
long_name setting = drop 2 (setting_name setting)

abbrev pub option_rule : Setting → Rule
option_rule setting = record (new_rule (long_name setting)) { long = Some (long_name setting) }

abbrev pub file_rule : FileWord → Rule
file_rule file = new_rule (file_word_name file)

-- the command's options, and its file words in their order
abbrev pub line_of : Command → App
line_of command = record {
  top = record (new_shape (command_name command)) {
    rules = map option_rule (settings_of command) ++ map file_rule (file_words_of command);
    disable_help_flag = true;
    disable_version_flag = true;
  };
  subs = [];
}
