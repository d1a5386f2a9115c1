-- What the words so far have said.
use Rattle.std.specs.Prelude.{ℕ, ◌+◌, ◌*◌, List, length, Option, Some, None}
use Rattle.cli_words.specs.Defaults.{options_at_first}
use Rattle.cli_words.specs.Rows.{file_words_of, settings_of}
use Rattle.cli_words.specs.declared.command.Command.{Command}
use Rattle.cli_words.specs.declared.options.Options.{Options}
use Rattle.cli_words.specs.declared.file_word.FileWord.{FileWord}
use Rattle.cli_words.specs.declared.setting.Setting.{Setting}

-- the options so far, the file words that must still come, the options that may still come, and the option
-- whose value is the next word
pub record Said : Type 0 where
  pub options : Options
  pub missing : List FileWord
  pub left : List Setting
  pub awaited : Option Setting

-- after the command alone
abbrev pub at_first : Command → Said
at_first command = record { options = options_at_first command; missing = file_words_of command; left = settings_of command; awaited = None }

abbrev pub words_awaited : Option Setting → ℕ
words_awaited None = 0
words_awaited (Some setting) = 1

-- how many words can still come at most
abbrev pub to_come : Said → ℕ
to_come said = length said.missing + 2 * length said.left + words_awaited said.awaited
