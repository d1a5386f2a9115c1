-- The words of a command line name as many files as its command has.
use Rattle.std.proofs.Common.{◌≡◌, ◌∙◌, ◌+◌, ◌++◌, arith, cond, refl, sym, subst, ap, ℕ, Bool, true, false, List, [], ◌∷◌, length, length-append, Option, Some, None, Ok}
use Rattle.std.specs.Prelude.{count_by, slice_get, slice_index, ok_or, option_and_then, option_map, ◌==◌, ◌^◌, ◌-◌, ◌*◌}
use Rattle.std.specs.List.{remove}
use Rattle.std.proofs.lemmas.List.Sums.{sum_by-cons}
use Rattle.cli_words.specs.Files.{HasItsFiles, files_number, names_file}
use Rattle.cli_words.specs.Form.{finished, finished_by, place_of, read_at, read_by, read_cut, read_file, read_file_as, read_named, read_on, read_option, read_value, read_word}
use Rattle.cli_words.specs.Said.{Said, at_first}
use Rattle.cli_words.specs.Values.{cut_at, is_file_text, number_in, part_of, with_file, with_file_word, with_setting}
use Rattle.cli_words.specs.declared.command.Command.{Command}
use Rattle.cli_words.specs.declared.options.Options.{Options}
use Rattle.cli_words.specs.declared.file_word.FileWord.{FileWord}
use Rattle.cli_words.specs.declared.file_word.FileWord.TheVariants as file
use Rattle.cli_words.specs.declared.setting.Setting.{Setting}
use Rattle.cli_words.specs.declared.setting.Setting.TheVariants as setting
use Rattle.cli_words.proofs.Completions.{read_on-none, read_on-some}

-- the new options are for the same command, and have n files more
record AddsFiles (n : ℕ) (old new : Options) : Type 0 where
  command : new.command ≡ old.command
  files : length new.files ≡ n + length old.files

mapped : {X : Type 0} (f : X → Options) (o : Option X) (n : ℕ) (old new : Options) → ((x : X) → AddsFiles n old (f x))
    → option_map f o ≡ Some new → AddsFiles n old new
mapped f None n old new adds e = cc
mapped f (Some x) n old new adds e =
    let same : f x ≡ new = cc in
    subst (AddsFiles n old) same (adds x)

none_added : (old new : Options) → new.command ≡ old.command → new.files ≡ old.files → AddsFiles 0 old new
none_added old new command files =
    let same : length new.files ≡ length old.files = ap (λ (names : List (List ℕ)). length names) files in
    record { command = command; files = omega (arith, same) }

setting_adds : (asked : Setting) (word : List ℕ) (old new : Options) → with_setting asked word old ≡ Some new → AddsFiles 0 old new
setting_adds setting.Machines word old new e = mapped (λ n. record old { machines = n }) (number_in 1 8 word) 0 old new (λ n. none_added old (record old { machines = n }) refl refl) e
setting_adds setting.Workers word old new e = mapped (λ n. record old { workers = n }) (number_in 1 8 word) 0 old new (λ n. none_added old (record old { workers = n }) refl refl) e
setting_adds setting.Threads word old new e = mapped (λ n. record old { threads = n }) (number_in 0 64 word) 0 old new (λ n. none_added old (record old { threads = n }) refl refl) e
setting_adds setting.Credits word old new e = mapped (λ n. record old { credits = n }) (number_in 1 8 word) 0 old new (λ n. none_added old (record old { credits = n }) refl refl) e
setting_adds setting.Broad word old new e = mapped (λ n. record old { broad = n }) (number_in 0 16 word) 0 old new (λ n. none_added old (record old { broad = n }) refl refl) e
setting_adds setting.Buffer word old new e = mapped (λ n. record old { buffer = n }) (number_in 1 64 word) 0 old new (λ n. none_added old (record old { buffer = n }) refl refl) e
setting_adds setting.Part word old new e = mapped (λ part. record old { part = part }) (part_of word) 0 old new (λ part. none_added old (record old { part = part }) refl refl) e
setting_adds setting.Lanes word old new e = mapped (λ n. record old { lanes = n }) (number_in 1 8 word) 0 old new (λ n. none_added old (record old { lanes = n }) refl refl) e
setting_adds setting.Pool word old new e = mapped (λ n. record old { pool = n }) (number_in 1 115200 word) 0 old new (λ n. none_added old (record old { pool = n }) refl refl) e
setting_adds setting.Schedule word old new e = mapped (λ n. record old { seed = n }) (number_in 0 (2 ^ 64 - 1) word) 0 old new (λ n. none_added old (record old { seed = n }) refl refl) e

one_added : (word : List ℕ) (names : List (List ℕ)) → length (names ++ word ∷ []) ≡ 1 + length names
one_added word names = grind (arith, length-append)

with_file_adds : (word : List ℕ) (old new : Options) → with_file word old ≡ Some new → AddsFiles 1 old new
with_file_adds word old new e = by (is_file_text word) refl
  where
    by : (b : Bool) → is_file_text word ≡ b → AddsFiles 1 old new
    by true is =
        let some : Some (record old { files = old.files ++ word ∷ [] }) ≡ Some new = rw is at e in
        let same : record old { files = old.files ++ word ∷ [] } ≡ new = cc in
        subst (AddsFiles 1 old) same (record { command = refl; files = one_added word old.files })
    by false is =
        let none : None ≡ Some new = rw is at e in
        cc

file_adds : (asked : FileWord) (word : List ℕ) (old new : Options) → with_file_word asked word old ≡ Some new → AddsFiles (cond (names_file asked) 1 0) old new
file_adds file.Manifest word old new e = with_file_adds word old new e
file_adds file.Queries word old new e = with_file_adds word old new e
file_adds file.Trace word old new e = with_file_adds word old new e
file_adds file.Seed word old new e = mapped (λ n. record old { seed = n }) (number_in 0 (2 ^ 64 - 1) word) 0 old new (λ n. none_added old (record old { seed = n }) refl refl) e
file_adds file.Vertices word old new e = mapped (λ n. record old { vertices = n }) (number_in 1 200000 word) 0 old new (λ n. none_added old (record old { vertices = n }) refl refl) e
file_adds file.Edges word old new e = mapped (λ n. record old { edges = n }) (number_in 0 (8 * old.vertices) word) 0 old new (λ n. none_added old (record old { edges = n }) refl refl) e

-- how many files are named, or must still be named
abbrev files_due : Said → ℕ
files_due said = length said.options.files + count_by names_file said.missing

record KeepsFiles (old new : Said) : Type 0 where
  command : new.options.command ≡ old.options.command
  due : files_due new ≡ files_due old

value_keeps : (asked : Setting) (word : List ℕ) (said next : Said) → read_value asked word said ≡ Some next → KeepsFiles said next
value_keeps asked word said next e = by (with_setting asked word said.options) refl e
  where
    by : (o : Option Options) → with_setting asked word said.options ≡ o
        → option_map (λ options. record said { options = options; awaited = None }) o ≡ Some next → KeepsFiles said next
    by None is f = cc
    by (Some options) is f =
        let adds = setting_adds asked word said.options options is in
        let after : Said = record said { options = options; awaited = None } in
        let same : after ≡ next = cc in
        subst (KeepsFiles said) same (record {
          command = adds.command;
          due = let files : length options.files ≡ 0 + length said.options.files = adds.files in omega arith;
        })

named_keeps : (value : Option (List ℕ)) (asked : Setting) (said next : Said) → read_named value asked said ≡ Some next → KeepsFiles said next
named_keeps None asked said next e =
    let after : Said = record said { awaited = Some asked } in
    let same : after ≡ next = cc in
    subst (KeepsFiles said) same (record { command = refl; due = refl })
named_keeps (Some value) asked said next e = value_keeps asked value said next e

at_keeps : (value : Option (List ℕ)) (said next : Said) (place : ℕ) → read_at value said place ≡ Some next → KeepsFiles said next
at_keeps value said next place e = by (slice_get said.left place) e
  where
    by : (o : Option Setting) → option_and_then (λ asked. read_named value asked (record said { left = remove said.left place })) o ≡ Some next
        → KeepsFiles said next
    by None f = cc
    by (Some asked) f =
        let keeps = named_keeps value asked (record said { left = remove said.left place }) next f in
        record { command = keeps.command; due = keeps.due }

option_keeps : (parts : List ℕ × Option (List ℕ)) (said next : Said) → read_cut parts said ≡ Some next → KeepsFiles said next
option_keeps parts said next e = by (place_of parts.0 said.left) e
  where
    by : (o : Option ℕ) → option_and_then (read_at parts.1 said) o ≡ Some next → KeepsFiles said next
    by None f = cc
    by (Some place) f = at_keeps parts.1 said next place f

one_fewer : (files : ℕ) (asked : FileWord) (missing : List FileWord)
    → cond (names_file asked) 1 0 + files + count_by names_file missing ≡ files + count_by names_file (asked ∷ missing)
one_fewer files asked missing = let sum = sum_by-cons (λ file. cond (names_file file) 1 0) asked missing in omega (arith, sum)

file_keeps : (missing : List FileWord) (word : List ℕ) (said next : Said) → said.missing ≡ missing → read_file_as missing word said ≡ Some next → KeepsFiles said next
file_keeps [] word said next m e = cc
file_keeps (asked ∷ missing) word said next m e = by (with_file_word asked word said.options) refl e
  where
    by : (o : Option Options) → with_file_word asked word said.options ≡ o
        → option_map (λ options. record said { options = options; missing = missing }) o ≡ Some next → KeepsFiles said next
    by None is f = cc
    by (Some options) is f =
        let adds = file_adds asked word said.options options is in
        let after : Said = record said { options = options; missing = missing } in
        let same : after ≡ next = cc in
        subst (KeepsFiles said) same (record {
          command = adds.command;
          due = ap (λ n. n + count_by names_file missing) adds.files
              ∙ (one_fewer (length said.options.files) asked missing ∙ ap (λ files. length said.options.files + count_by names_file files) (sym m));
        })

word_keeps : (awaited : Option Setting) (word : List ℕ) (said next : Said) → read_by awaited word said ≡ Some next → KeepsFiles said next
word_keeps (Some asked) word said next e = value_keeps asked word said next e
word_keeps None word said next e = by (slice_index word 0 == 45) e
  where
    by : (b : Bool) → cond b (read_option word said) (read_file word said) ≡ Some next → KeepsFiles said next
    by true f = option_keeps (cut_at 61 word) said next f
    by false f = file_keeps said.missing word said next refl f

-- the said has as many files as its command, named or still to be named
abbrev IsWhole : Said → Type 0
IsWhole said = files_due said ≡ files_number said.options.command

finished_files : (said : Said) (place : ℕ) (options : Options) → IsWhole said → ok_or (finished said) place ≡ Ok options → HasItsFiles options
finished_files said place options whole e = by said.awaited said.missing whole e
  where
    by : (awaited : Option Setting) (missing : List FileWord) → length said.options.files + count_by names_file missing ≡ files_number said.options.command
        → ok_or (finished_by awaited missing said.options) place ≡ Ok options → HasItsFiles options
    by None [] w f =
        let same : said.options ≡ options = cc in
        let count : length said.options.files ≡ files_number said.options.command = omega (arith, w) in
        subst HasItsFiles same count
    by None (file ∷ missing) w f = cc
    by (Some asked) missing w f = cc

read_on_files : (words : List (List ℕ)) (place : ℕ) (said : Said) (options : Options) → IsWhole said → read_on words place said ≡ Ok options → HasItsFiles options
read_on_files [] place said options whole e = finished_files said place options whole e
read_on_files (word ∷ words) place said options whole e = by (λ next. read_on_files words (place + 1) next options) (read_word word said) refl
  where
    by : ((next : Said) → IsWhole next → read_on words (place + 1) next ≡ Ok options → HasItsFiles options)
        → (o : Option Said) → read_word word said ≡ o → HasItsFiles options
    by rest None is =
        let err = read_on-none word words place said is in
        cc
    by rest (Some next) is =
        let keeps = word_keeps said.awaited word said next is in
        rest next (keeps.due ∙ (whole ∙ ap files_number (sym keeps.command))) (sym (read_on-some word words place said next is) ∙ e)

whole_at_first : (command : Command) → IsWhole (at_first command)
whole_at_first command = let none : length (at_first command).options.files ≡ 0 = refl in omega arith

-- what the words after a command's word say has the files of the command
pub said_files : (words : List (List ℕ)) (command : Command) (options : Options) → read_on words 1 (at_first command) ≡ Ok options → HasItsFiles options
said_files words command options e = read_on_files words 1 (at_first command) options (whole_at_first command) e
