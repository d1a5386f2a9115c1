-- What the words of a command line ask for.
use Rattle.std.specs.Prelude.{◌≡◌, ◌≤◌, ◌*◌, ℕ, ◌&&◌, not, Bool, true, List, Result, Ok, Err, codes, if◌then◌else◌}
use Rattle.std.specs.List.{list_any}
use Rattle.std.specs.Str.{bytes_eq}
use Rattle.cli_words.specs.Form.{options_of}
use Rattle.cli_words.specs.Values.{cut_at}
use Rattle.cli_words.specs.declared.command.Command.{Command}
use Rattle.cli_words.specs.declared.command.Command.TheVariants.{Gen, Run}
use Rattle.cli_words.specs.declared.options.Options.{Options}
use Rattle.run_status.specs.Steps.{◌>>~◌}
use Rattle.run_status.specs.declared.status.Status.{Status}
use Rattle.run_status.specs.declared.status.Status.TheVariants.{Usage, NotBuilt}

-- an option of this name is among the words
abbrev pub is_given : List ℕ → List (List ℕ) → Bool
is_given name words = list_any (λ word. bytes_eq (cut_at 61 word).0 name) words

-- what the words ask of the command is built
abbrev pub is_built : Command → List (List ℕ) → Bool
is_built Run words = not (is_given (codes "--lanes") words) && not (is_given (codes "--pool") words)
is_built command words = true

abbrev pub with_usage : {A : Type 0} → Result A ℕ → Result A Status
with_usage (Ok x) = Ok x
with_usage (Err word) = Err (Usage word)

abbrev pub if_built : List (List ℕ) → Options → Result Options Status
if_built words options = if is_built options.command words then Ok options else Err (NotBuilt 1000)

-- the options that the words say, where the words are of the form and all that they ask for is built
abbrev pub accepted : List (List ℕ) → Result Options Status
accepted words = with_usage (options_of words) >>~ if_built words

-- The numbers of vertices and edges are in the ranges of `gen`.
abbrev pub AreSizes : ℕ → ℕ → Type 0
AreSizes vertices edges = (1 ≤ vertices) × (vertices ≤ 200000) × (edges ≤ 8 * vertices)

abbrev pub IsSized : Options → Type 0
IsSized options = options.command ≡ Gen → AreSizes options.vertices options.edges
