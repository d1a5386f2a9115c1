-- Whatever was said, some words make a command line of it.
use Rattle.std.proofs.Common.{◌≡◌, ◌+◌, ◌*◌, ◌++◌, arith, refl, sym, subst, ap, ℕ, true, List, [], ◌∷◌, map, codes, nat_le, Option, Some, None, Result, Err}
use Rattle.std.proofs.lemmas.Bool.Decides.{nat_tests}
use Rattle.std.specs.Prelude.{IsOk}
use Rattle.adfs_base.specs.declared.part_word.PartWord.TheVariants as part
use Rattle.cli_words.specs.Form.{read_word, read_on}
use Rattle.cli_words.specs.Said.{Said}
use Rattle.cli_words.specs.declared.options.Options.{Options}
use Rattle.cli_words.specs.declared.file_word.FileWord.{FileWord}
use Rattle.cli_words.specs.declared.file_word.FileWord.TheVariants as file
use Rattle.cli_words.specs.declared.setting.Setting.{Setting}
use Rattle.cli_words.specs.declared.setting.Setting.TheVariants as setting

pub read_on-some : (word : List ℕ) (words : List (List ℕ)) (place : ℕ) (said next : Said) → read_word word said ≡ Some next → read_on (word ∷ words) place said ≡ read_on words (place + 1) next
read_on-some word words place said next e =
    ap (λ (read : Option Said). elim read as (λ _. Result Options ℕ) [ None ↦ Err place | Some after ↦ read_on words (place + 1) after ]) e

pub read_on-none : (word : List ℕ) (words : List (List ℕ)) (place : ℕ) (said : Said) → read_word word said ≡ None → read_on (word ∷ words) place said ≡ Err place
read_on-none word words place said e =
    ap (λ (read : Option Said). elim read as (λ _. Result Options ℕ) [ None ↦ Err place | Some after ↦ read_on words (place + 1) after ]) e

-- a value that the option takes
abbrev value_example : Setting → List ℕ
value_example setting.Part = codes "block"
value_example setting.Machines = codes "1"
value_example setting.Workers = codes "1"
value_example setting.Threads = codes "1"
value_example setting.Credits = codes "1"
value_example setting.Broad = codes "1"
value_example setting.Buffer = codes "1"
value_example setting.Lanes = codes "1"
value_example setting.Pool = codes "1"
value_example setting.Schedule = codes "1"

-- a word that may stand in that place
abbrev file_example : FileWord → List ℕ
file_example file.Manifest = codes "0"
file_example file.Queries = codes "0"
file_example file.Trace = codes "0"
file_example file.Seed = codes "0"
file_example file.Vertices = codes "1"
file_example file.Edges = codes "0"

value_goes_on : (asked : Setting) (options : Options) (missing : List FileWord) (left : List Setting)
    → (next : Options) × (read_word (value_example asked) (record { options = options; missing = missing; left = left; awaited = Some asked }) ≡ Some (record { options = next; missing = missing; left = left; awaited = None }))
value_goes_on setting.Part options missing left = (record options { part = part.Block }, refl)
value_goes_on setting.Machines options missing left = (record options { machines = 1 }, refl)
value_goes_on setting.Workers options missing left = (record options { workers = 1 }, refl)
value_goes_on setting.Threads options missing left = (record options { threads = 1 }, refl)
value_goes_on setting.Credits options missing left = (record options { credits = 1 }, refl)
value_goes_on setting.Broad options missing left = (record options { broad = 1 }, refl)
value_goes_on setting.Buffer options missing left = (record options { buffer = 1 }, refl)
value_goes_on setting.Lanes options missing left = (record options { lanes = 1 }, refl)
value_goes_on setting.Pool options missing left = (record options { pool = 1 }, refl)
value_goes_on setting.Schedule options missing left = (record options { seed = 1 }, refl)

nothing_le : (n : ℕ) → nat_le 0 n ≡ true
nothing_le n = grind (arith, nat_tests)

file_goes_on : (asked : FileWord) (options : Options) (missing : List FileWord) (left : List Setting)
    → (next : Options) × (read_word (file_example asked) (record { options = options; missing = asked ∷ missing; left = left; awaited = None }) ≡ Some (record { options = next; missing = missing; left = left; awaited = None }))
file_goes_on file.Manifest options missing left = (record options { files = options.files ++ codes "0" ∷ [] }, refl)
file_goes_on file.Queries options missing left = (record options { files = options.files ++ codes "0" ∷ [] }, refl)
file_goes_on file.Trace options missing left = (record options { files = options.files ++ codes "0" ∷ [] }, refl)
file_goes_on file.Seed options missing left = (record options { seed = 0 }, refl)
file_goes_on file.Vertices options missing left = (record options { vertices = 1 }, refl)
file_goes_on file.Edges options missing left = (record options { edges = 0 }, rw (nothing_le (8 * options.vertices)) refl)

files_complete : (missing : List FileWord) (place : ℕ) (options : Options) (left : List Setting)
    → IsOk (read_on (map file_example missing) place (record { options = options; missing = missing; left = left; awaited = None }))
files_complete [] place options left = refl
files_complete (asked ∷ missing) place options left =
    let step = file_goes_on asked options missing left in
    let said : Said = record { options = options; missing = asked ∷ missing; left = left; awaited = None } in
    let next : Said = record { options = step.0; missing = missing; left = left; awaited = None } in
    subst (λ (r : Result Options ℕ). IsOk r) (sym (read_on-some (file_example asked) (map file_example missing) place said next step.1)) (files_complete missing (place + 1) step.0 left)

abbrev completion_by : Option Setting → List FileWord → List (List ℕ)
completion_by None missing = map file_example missing
completion_by (Some asked) missing = value_example asked ∷ map file_example missing

complete_by : (awaited : Option Setting) (missing : List FileWord) (place : ℕ) (options : Options) (left : List Setting)
    → IsOk (read_on (completion_by awaited missing) place (record { options = options; missing = missing; left = left; awaited = awaited }))
complete_by None missing place options left = files_complete missing place options left
complete_by (Some asked) missing place options left =
    let step = value_goes_on asked options missing left in
    let said : Said = record { options = options; missing = missing; left = left; awaited = Some asked } in
    let next : Said = record { options = step.0; missing = missing; left = left; awaited = None } in
    subst (λ (r : Result Options ℕ). IsOk r) (sym (read_on-some (value_example asked) (map file_example missing) place said next step.1)) (files_complete missing (place + 1) step.0 left)

pub complete : (said : Said) (place : ℕ) → (more : List (List ℕ)) × IsOk (read_on more place said)
complete said place = (completion_by said.awaited said.missing, complete_by said.awaited said.missing place said.options said.left)
