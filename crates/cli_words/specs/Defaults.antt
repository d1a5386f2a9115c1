-- The options of a command line that is the command alone.
use Rattle.std.specs.Prelude.{[]}
use Rattle.adfs_base.specs.declared.part_word.PartWord.TheVariants as part
use Rattle.cli_words.specs.declared.command.Command.{Command}
use Rattle.cli_words.specs.declared.options.Options.{Options}

abbrev pub options_at_first : Command → Options
options_at_first command = record { command = command; files = []; machines = 1; workers = 1; threads = 1; credits = 2; broad = 2; buffer = 16; part = part.Modulo; lanes = 1; pool = 14400; seed = 0; vertices = 0; edges = 0 }
