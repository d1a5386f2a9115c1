-- The commands, and the file words and options of each.
use Rattle.std.specs.Prelude.{ℕ, List, [], ◌∷◌, Option, codes}
use Rattle.std.specs.List.{find}
use Rattle.std.specs.Str.{bytes_eq}
use Rattle.cli_words.specs.declared.command.Command.{Command}
use Rattle.cli_words.specs.declared.command.Command.TheVariants.{Run, Trace, Replay, Plan, Gen, Help}
use Rattle.cli_words.specs.declared.file_word.FileWord.{FileWord}
use Rattle.cli_words.specs.declared.file_word.FileWord.TheVariants as file
use Rattle.cli_words.specs.declared.setting.Setting.{Setting}
use Rattle.cli_words.specs.declared.setting.Setting.TheVariants as setting

-- in the order of the help text
abbrev pub commands : List Command
commands = Run ∷ Trace ∷ Replay ∷ Plan ∷ Gen ∷ Help ∷ []

abbrev pub command_name : Command → List ℕ
command_name Run = codes "run"
command_name Trace = codes "trace"
command_name Replay = codes "replay"
command_name Plan = codes "plan"
command_name Gen = codes "gen"
command_name Help = codes "help"

-- the command of a name
abbrev pub command_named : List ℕ → Option Command
command_named name = find (λ command. bytes_eq (command_name command) name) commands

-- the file words that a command has, in order
abbrev pub file_words_of : Command → List FileWord
file_words_of Run = file.Manifest ∷ file.Queries ∷ []
file_words_of Trace = file.Manifest ∷ file.Queries ∷ []
file_words_of Replay = file.Trace ∷ []
file_words_of Plan = file.Manifest ∷ file.Queries ∷ []
file_words_of Gen = file.Seed ∷ file.Vertices ∷ file.Edges ∷ []
file_words_of Help = []

-- the options that a command has
abbrev pub settings_of : Command → List Setting
settings_of Run = setting.Machines ∷ setting.Workers ∷ setting.Threads ∷ setting.Credits ∷ setting.Broad ∷ setting.Buffer ∷ setting.Part ∷ setting.Lanes ∷ setting.Pool ∷ []
settings_of Trace = setting.Machines ∷ setting.Workers ∷ setting.Credits ∷ setting.Broad ∷ setting.Buffer ∷ setting.Part ∷ setting.Schedule ∷ []
settings_of Replay = []
settings_of Plan = []
settings_of Gen = setting.Machines ∷ setting.Workers ∷ setting.Credits ∷ setting.Broad ∷ setting.Buffer ∷ []
settings_of Help = []

-- how the help text names a file word
abbrev pub file_word_name : FileWord → List ℕ
file_word_name file.Manifest = codes "MANIFEST"
file_word_name file.Queries = codes "QUERIES"
file_word_name file.Trace = codes "FILE"
file_word_name file.Seed = codes "SEED"
file_word_name file.Vertices = codes "VERTICES"
file_word_name file.Edges = codes "EDGES"

-- the word that names an option
abbrev pub setting_name : Setting → List ℕ
setting_name setting.Machines = codes "--machines"
setting_name setting.Workers = codes "--workers"
setting_name setting.Threads = codes "--threads"
setting_name setting.Credits = codes "--credits"
setting_name setting.Broad = codes "--broad"
setting_name setting.Buffer = codes "--buffer"
setting_name setting.Part = codes "--part"
setting_name setting.Lanes = codes "--lanes"
setting_name setting.Pool = codes "--pool"
setting_name setting.Schedule = codes "--schedule"
