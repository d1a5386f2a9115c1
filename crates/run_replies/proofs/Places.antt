-- Which file a status names.
use Rattle.std.proofs.Common.{◌≡◌, ℕ, List, refl, Option, Some, None, MatchOption, IfSome, Result, Ok, Err, IfErr, subst, sym}
use Rattle.adfs_base.specs.Counts.{Rose}
use Rattle.adfs_base.specs.Files.{Files}
use Rattle.cli_words.specs.declared.command.Command.{Command}
use Rattle.cli_words.specs.declared.options.Options.{Options}
use Rattle.graph_loading.specs.Loaded.{loaded}
use Rattle.graph_loading.specs.Reaching.{IsReached}
use Rattle.graph_loading.specs.Steps.{LacksAt}
use Rattle.graph_tables.specs.Faults as tables
use Rattle.graph_tables.specs.declared.faults.TableFault.{TableFault}
use Rattle.graph_tables.specs.declared.faults.TableKind.{TableKind}
use Rattle.graph_tables.specs.declared.faults.TableKind.TheVariants as kind
use Rattle.value_text.specs.declared.cells.CellFault.{CellFault}
use Rattle.value_text.specs.declared.cells.CellFault.TheVariants as cell
use Rattle.run_replies.proofs.Lacking.{lacking_reached}
use Rattle.run_replies.specs.Causes.{FailsAt, StoreCause}
use Rattle.run_replies.specs.Parts.{IsOfFiles, IsOfWords}
use Rattle.run_replies.specs.Reaching.{CommandReaches, GraphReaches, WordsReach}
use Rattle.run_replies.specs.Stores.{ReadsFiles, Tells}
use Rattle.run_status.specs.Faults.{status_of_cell, status_of_fault, status_of_kind}
use Rattle.run_status.specs.declared.status.Status.{Status}
use Rattle.run_status.specs.declared.status.Status.TheVariants.{Missing, ReadFault}

-- a cell's fault is no read fault
place_of_cell : (Reaches : ℕ → Type 0) (e : TableFault) (f : CellFault) → FailsAt Reaches (status_of_cell e f)
place_of_cell Reaches e cell.BadInt = tt
place_of_cell Reaches e cell.WideInt = tt
place_of_cell Reaches e cell.BadBool = tt
place_of_cell Reaches e cell.BadDate = tt
place_of_cell Reaches e cell.BadText = tt
place_of_cell Reaches e cell.WrongCount = tt
place_of_cell Reaches e cell.NoMemory = tt

-- the status of a load that failed, or lacks a file, names the file
place_of_kind : (Reaches : ℕ → Type 0) (e : TableFault) (k : TableKind) → (k ≡ kind.ReadFault → Reaches e.file) → (k ≡ kind.Missing → Reaches e.file)
    → FailsAt Reaches (status_of_kind e k)
place_of_kind Reaches e kind.ReadFault reached lacking = reached refl
place_of_kind Reaches e (kind.BadCell f) reached lacking = place_of_cell Reaches e f
place_of_kind Reaches e kind.BadManifest reached lacking = tt
place_of_kind Reaches e kind.BadHeader reached lacking = tt
place_of_kind Reaches e kind.DoubleKey reached lacking = tt
place_of_kind Reaches e kind.NoSuchVertex reached lacking = tt
place_of_kind Reaches e kind.TooLong reached lacking = tt
place_of_kind Reaches e (kind.TooMany q) reached lacking = tt
place_of_kind Reaches e kind.Missing reached lacking = lacking refl
place_of_kind Reaches e kind.NoMemory reached lacking = tt

-- the store has caused it where a store causes such a status
cause_of_cell : {F : Type 0} (files : Option F) (faults faults_now misses misses_now : ℕ) (e : TableFault) (f : CellFault) → StoreCause (status_of_cell e f) files faults faults_now misses misses_now
cause_of_cell files faults faults_now misses misses_now e cell.BadInt = tt
cause_of_cell files faults faults_now misses misses_now e cell.WideInt = tt
cause_of_cell files faults faults_now misses misses_now e cell.BadBool = tt
cause_of_cell files faults faults_now misses misses_now e cell.BadDate = tt
cause_of_cell files faults faults_now misses misses_now e cell.BadText = tt
cause_of_cell files faults faults_now misses misses_now e cell.WrongCount = tt
cause_of_cell files faults faults_now misses misses_now e cell.NoMemory = tt

cause_of_kind : {F : Type 0} (files : Option F) (faults faults_now misses misses_now : ℕ) (e : TableFault) (k : TableKind) → (k ≡ kind.ReadFault → Rose faults faults_now)
    → (k ≡ kind.Missing → MatchOption files (Rose misses misses_now) (λ _. Unit {0})) → StoreCause (status_of_kind e k) files faults faults_now misses misses_now
cause_of_kind files faults faults_now misses misses_now e kind.ReadFault failed missing = failed refl
cause_of_kind files faults faults_now misses misses_now e kind.Missing failed missing = missing refl
cause_of_kind files faults faults_now misses misses_now e (kind.BadCell f) failed missing = cause_of_cell files faults faults_now misses misses_now e f
cause_of_kind files faults faults_now misses misses_now e kind.BadManifest failed missing = tt
cause_of_kind files faults faults_now misses misses_now e kind.BadHeader failed missing = tt
cause_of_kind files faults faults_now misses misses_now e kind.DoubleKey failed missing = tt
cause_of_kind files faults faults_now misses misses_now e kind.NoSuchVertex failed missing = tt
cause_of_kind files faults faults_now misses misses_now e kind.TooLong failed missing = tt
cause_of_kind files faults faults_now misses misses_now e (kind.TooMany q) failed missing = tt
cause_of_kind files faults faults_now misses misses_now e kind.NoMemory failed missing = tt

-- and it is one of the work on files
files_of_cell : (e : TableFault) (f : CellFault) → IsOfFiles (status_of_cell e f)
files_of_cell e cell.BadInt = tt
files_of_cell e cell.WideInt = tt
files_of_cell e cell.BadBool = tt
files_of_cell e cell.BadDate = tt
files_of_cell e cell.BadText = tt
files_of_cell e cell.WrongCount = tt
files_of_cell e cell.NoMemory = tt

files_of_kind : (e : TableFault) (k : TableKind) → IsOfFiles (status_of_kind e k)
files_of_kind e kind.ReadFault = tt
files_of_kind e kind.Missing = tt
files_of_kind e (kind.BadCell f) = files_of_cell e f
files_of_kind e kind.BadManifest = tt
files_of_kind e kind.BadHeader = tt
files_of_kind e kind.DoubleKey = tt
files_of_kind e kind.NoSuchVertex = tt
files_of_kind e kind.TooLong = tt
files_of_kind e (kind.TooMany q) = tt
files_of_kind e kind.NoMemory = tt

-- The fault, if it is that of a load, is of a file that the told ones reach.
abbrev IsReachedAt : List ℕ → Option Files → TableFault → Type 0
IsReachedAt manifest files e = e.kind ≡ kind.ReadFault → IfSome files (λ told. IsReached told manifest e.file)

-- The fault is the definition's, where the files are told.
abbrev IsToldOfLoad : List ℕ → Option Files → TableFault → Type 0
IsToldOfLoad manifest files e = IfSome files (λ told. tables.LoadsFault e e.kind (loaded told manifest))

lacked : (manifest : List ℕ) (files : Option Files) (e : TableFault) → IsToldOfLoad manifest files e → e.kind ≡ kind.Missing → IfSome files (λ told. IsReached told manifest e.file)
lacked manifest None e gives missing = tt
lacked manifest (Some told) e gives missing = lacking_reached told manifest e (subst (λ k. tables.LoadsFault e k (loaded told manifest)) missing gives) missing

-- a load of tables that failed
failed_load : {X Y : Type 0} (manifest : List ℕ) (e : TableFault) (old new : Tells) → new.0 ≡ old.0 → tables.HasCause {X = X} old.0 old.1 new.1 old.2 new.2 (Err e) → tables.FailsAt 0 256 e
    → LacksAt 0 256 e → IsReachedAt manifest old.0 e → IsToldOfLoad manifest old.0 e → ReadsFiles {X = Y} (GraphReaches manifest) old new (Err (status_of_fault e))
failed_load manifest e old new kept cause place lacking reached gives = record {
  kept = kept;
  faults = cause.faults_stay;
  misses = cause.misses_stay;
  cause = cause_of_kind old.0 old.1 new.1 old.2 new.2 e e.kind cause.failed cause.missing;
  status = files_of_kind e e.kind;
  place = place_of_kind (GraphReaches manifest old.0) e e.kind (λ is. record { number = (place is).2; reached = reached is })
      (λ is. record { number = (lacking is).2; reached = lacked manifest old.0 e gives is });
}

pub reads_fault : {X Y : Type 0} (manifest : List ℕ) (e : TableFault) (status : Status) (old new : Tells) → status ≡ status_of_fault e → new.0 ≡ old.0
    → tables.HasCause {X = X} old.0 old.1 new.1 old.2 new.2 (Err e) → tables.FailsAt 0 256 e → LacksAt 0 256 e → IsReachedAt manifest old.0 e → IsToldOfLoad manifest old.0 e
    → ReadsFiles {X = Y} (GraphReaches manifest) old new (Err status)
reads_fault {X} {Y} manifest e status old new is kept cause place lacking reached gives =
    subst (λ s. ReadsFiles {X = Y} (GraphReaches manifest) old new (Err s)) (sym is) (failed_load {X = X} {Y = Y} manifest e old new kept cause place lacking reached gives)

-- ---- by what the words come to

-- what a command reads
pub command_reads : {X : Type 0} (asking : Command) (options : Options) (old new : Tells) (result : Result X Status) → options.command ≡ asking
    → ReadsFiles (CommandReaches asking options) old new result → ReadsFiles (CommandReaches options.command options) old new result
command_reads asking options old new result is reads = subst (λ a. ReadsFiles (CommandReaches a options) old new result) (sym is) reads

pub place_of_words : {X : Type 0} (words : Result Options Status) (options : Options) (files : Option Files) (result : Result X Status) → words ≡ Ok options
    → IfErr result (FailsAt (CommandReaches options.command options files)) → IfErr result (FailsAt (WordsReach words files))
place_of_words words options files (Ok x) is at = tt
place_of_words words options files (Err status) is at = subst (λ w. FailsAt (WordsReach w files) status) (sym is) at

-- words read no file
pub words_nowhere : (Reaches : ℕ → Type 0) (status : Status) → IsOfWords status → FailsAt Reaches status
words_nowhere Reaches (ReadFault file) is = absurd is
words_nowhere Reaches (Missing file) is = absurd is
words_nowhere Reaches status is = tt
