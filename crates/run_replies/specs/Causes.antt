-- When a status comes that the store, a file's number or the words have caused.
use Rattle.std.specs.Prelude.{◌≡◌, ℕ, IsOk, Option, Result, Err, MatchOption}
use Rattle.adfs_base.specs.Counts.{Rose}
use Rattle.cli_words.specs.declared.options.Options.{Options}
use Rattle.run_status.specs.declared.status.Status.{Status}
use Rattle.run_status.specs.declared.status.Status.TheVariants.{Usage, ReadFault, Missing, NoMemory, NotBuilt}

-- A read fault comes only where the store's faults rose; a missing file, where the files aren't told, only where its misses rose.
abbrev pub StoreCause : {F : Type 0} → Status → Option F → ℕ → ℕ → ℕ → ℕ → Type 0
StoreCause (ReadFault file) files faults faults_now misses misses_now = Rose faults faults_now
StoreCause (Missing file) files faults faults_now misses misses_now = MatchOption files (Rose misses misses_now) (λ _. Unit {0})
StoreCause status files faults faults_now misses misses_now = Unit {0}

-- A read fault, or a missing file, is of a file that is reached.
abbrev pub FailsAt : (ℕ → Type 0) → Status → Type 0
FailsAt Reaches (ReadFault file) = Reaches file
FailsAt Reaches (Missing file) = Reaches file
FailsAt Reaches status = Unit {0}

-- How far the words went: a status that is theirs alone comes for no other cause, and any other only where they were accepted.
abbrev pub WordsGive : Status → Result Options Status → Type 0
WordsGive (Usage word) words = words ≡ Err (Usage word)
WordsGive (NotBuilt what) words = words ≡ Err (NotBuilt what)
WordsGive NoMemory words = Unit {0}
WordsGive status words = IsOk words
