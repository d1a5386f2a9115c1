-- How many files a command line names.
use Rattle.std.specs.Prelude.{◌≡◌, ℕ, Bool, true, false, length, count_by}
use Rattle.cli_words.specs.Rows.{file_words_of}
use Rattle.cli_words.specs.declared.command.Command.{Command}
use Rattle.cli_words.specs.declared.options.Options.{Options}
use Rattle.cli_words.specs.declared.file_word.FileWord.{FileWord}
use Rattle.cli_words.specs.declared.file_word.FileWord.TheVariants as file

-- the file word names a file, and is no number
abbrev pub names_file : FileWord → Bool
names_file file.Manifest = true
names_file file.Queries = true
names_file file.Trace = true
names_file file.Seed = false
names_file file.Vertices = false
names_file file.Edges = false

-- how many files a command has
abbrev pub files_number : Command → ℕ
files_number command = count_by names_file (file_words_of command)

-- the options have as many files as their command
abbrev pub HasItsFiles : Options → Type 0
HasItsFiles options = length options.files ≡ files_number options.command
