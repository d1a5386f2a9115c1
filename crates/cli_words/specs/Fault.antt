-- What `read_words` gives, against what the words say.
use Rattle.std.specs.Prelude.{◌≡◌, ℕ, Result, Ok, Err}
use Rattle.cli_words.specs.declared.options.Options.{Options}
use Rattle.cli_words.specs.declared.read.UsageFault.{UsageFault}
use Rattle.cli_words.specs.declared.read.UsageFault.TheVariants.{Word, NoMemory}

-- It is what the words say, unless memory ran out.
abbrev pub GivesOptions : Result Options UsageFault → Result Options ℕ → Type 0
GivesOptions (Ok options) said = said ≡ Ok options
GivesOptions (Err (Word place)) said = said ≡ Err place
GivesOptions (Err NoMemory) said = Unit {0}
