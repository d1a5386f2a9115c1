-- Options among words.
use Rattle.std.proofs.Common.{◌≡◌, ℕ, Bool, ◌&&◌, ◌||◌, not, List, [], ◌∷◌, map, ap, refl, Global, String, codes, Result, Ok, Err, IsOk, IfErr}
use Rattle.std.specs.List.{list_any}
use Rattle.std.specs.Str.{bytes_eq}
use Rattle.std.specs.String.{string_bytes}
use Rattle.cli_words.specs.Values.{cut_at}
use Rattle.cli_words.specs.declared.command.Command.{Command}
use Rattle.cli_words.specs.declared.command.Command.TheVariants.{Run}
use Rattle.cli_words.specs.declared.options.Options.{Options}
use Rattle.run_replies.specs.Causes.{WordsGive}
use Rattle.run_replies.specs.Parts.{IsBeforePuts, IsOfFiles, IsOfWords, PartGives}
use Rattle.run_status.specs.declared.status.Status.{Status}
use Rattle.run_status.specs.declared.status.Status.TheVariants.{Done, NoMemory, NotBuilt, SomeRefused, Usage, WriteFault}
use Rattle.run_replies.specs.Words.{is_built, is_given}

-- an option among words is one among their bytes
given_of : (name : List ℕ) (words : List (String Global)) → list_any (λ word. bytes_eq (cut_at 61 (string_bytes word)).0 name) words ≡ is_given name (map string_bytes words)
given_of name [] = refl
given_of name (word ∷ words) = ap (λ b. bytes_eq (cut_at 61 (string_bytes word)).0 name || b) (given_of name words)

-- what is asked of `run` is built where neither option is given
pub built_by : (command : Command) (words : List (String Global)) (lanes pool : Bool) → command ≡ Run
    → lanes ≡ list_any (λ word. bytes_eq (cut_at 61 (string_bytes word)).0 (codes "--lanes")) words
    → pool ≡ list_any (λ word. bytes_eq (cut_at 61 (string_bytes word)).0 (codes "--pool")) words
    → (not lanes && not pool) ≡ is_built command (map string_bytes words)
built_by command words lanes pool run with_lanes with_pool = rw (run, with_lanes, with_pool, given_of (codes "--lanes") words, given_of (codes "--pool") words) refl

-- ---- how far the words went

pub words_gave : (status : Status) (words : Result Options Status) → IsOfWords status → PartGives (λ options. options) (Err status) words → WordsGive status words
words_gave (Usage word) words is gives = gives
words_gave (NotBuilt what) words is gives = gives
words_gave NoMemory words is gives = tt
words_gave status words is gives = absurd is

words_passed : (status : Status) (words : Result Options Status) → IsOk words → IsOfFiles status → WordsGive status words
words_passed (Usage word) words ok is = absurd is
words_passed (NotBuilt what) words ok is = absurd is
words_passed NoMemory words ok is = tt
words_passed status words ok is = ok

pub passed_by : {X : Type 0} (result : Result X Status) (words : Result Options Status) → IsOk words → IfErr result IsOfFiles → IfErr result (λ status. WordsGive status words)
passed_by (Ok x) words ok is = tt
passed_by (Err status) words ok is = words_passed status words ok is

-- either way nothing was put
pub words_before : (status : Status) → IsOfWords status → IsBeforePuts status
words_before Done is = is
words_before SomeRefused is = is
words_before WriteFault is = is
words_before status is = tt

files_before : (status : Status) → IsOfFiles status → IsBeforePuts status
files_before Done is = is
files_before SomeRefused is = is
files_before WriteFault is = is
files_before status is = tt

pub before_by : {X : Type 0} (result : Result X Status) → IfErr result IsOfFiles → IfErr result IsBeforePuts
before_by (Ok x) is = tt
before_by (Err status) is = files_before status is
