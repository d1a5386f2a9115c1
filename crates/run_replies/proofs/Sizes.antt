-- What the words of `gen` say is in its range.
use Rattle.std.proofs.Common.{◌≡◌, ◌∙◌, ◌+◌, ◌*◌, ◌++◌, ◌≤◌, ◌&&◌, nat_le, arith, cond, refl, sym, subst, ℕ, Bool, true, false, List, [], ◌∷◌, Option, Some, None, Ok}
use Rattle.std.specs.Prelude.{slice_get, slice_index, ok_or, option_and_then, option_map, ◌==◌, ◌^◌, ◌-◌}
use Rattle.std.specs.List.{remove}
use Rattle.std.proofs.lemmas.Bool.Decides.{nat_tests}
use Rattle.cli_words.specs.Form.{finished, finished_by, options_of, place_of, read_after, read_at, read_by, read_cut, read_file, read_file_as, read_named, read_on, read_option, read_value, read_word}
use Rattle.cli_words.specs.Rows.{command_named}
use Rattle.cli_words.specs.Said.{Said, at_first}
use Rattle.cli_words.specs.Values.{cut_at, is_file_text, number_in, number_of, part_of, with_file, with_file_word, with_setting, within}
use Rattle.cli_words.specs.declared.command.Command.{Command}
use Rattle.cli_words.specs.declared.command.Command.TheVariants as command
use Rattle.cli_words.specs.declared.options.Options.{Options}
use Rattle.cli_words.specs.declared.file_word.FileWord.{FileWord}
use Rattle.cli_words.specs.declared.file_word.FileWord.TheVariants as file
use Rattle.cli_words.specs.declared.setting.Setting.{Setting}
use Rattle.cli_words.specs.declared.setting.Setting.TheVariants as setting
use Rattle.cli_words.proofs.Completions.{read_on-none, read_on-some}
use Rattle.run_replies.specs.Words.{AreSizes, IsSized}

-- ---- a number is in its range

both_true : (a b : Bool) → (a && b) ≡ true → (a ≡ true) × (b ≡ true)
both_true true b is = (refl, is)
both_true false b is = cc

within_range : (least greatest m n : ℕ) → within least greatest m ≡ Some n → (least ≤ n) × (n ≤ greatest)
within_range least greatest m n e = by (nat_le least m && nat_le m greatest) refl e
  where
    by : (b : Bool) → (nat_le least m && nat_le m greatest) ≡ b → cond b (Some m) None ≡ Some n → (least ≤ n) × (n ≤ greatest)
    by true is f =
        let same : m ≡ n = cc in
        let both = both_true (nat_le least m) (nat_le m greatest) is in
        let low = both.0 in
        let high = both.1 in
        let at_least : least ≤ m = grind (arith, nat_tests) in
        let at_most : m ≤ greatest = grind (arith, nat_tests) in
        (omega (arith, same, at_least), omega (arith, same, at_most))
    by false is f = cc

number_range : (least greatest : ℕ) (word : List ℕ) (n : ℕ) → number_in least greatest word ≡ Some n → (least ≤ n) × (n ≤ greatest)
number_range least greatest word n e = by (number_of word) e
  where
    by : (o : Option ℕ) → option_and_then (within least greatest) o ≡ Some n → (least ≤ n) × (n ≤ greatest)
    by None f = cc
    by (Some m) f = within_range least greatest m n f

-- ---- the file words that are still to come, and what was said by then

abbrev AreOnWay : List FileWord → ℕ → ℕ → Type 0
AreOnWay [] vertices edges = AreSizes vertices edges
AreOnWay (file.Edges ∷ rest) vertices edges = (rest ≡ []) × (1 ≤ vertices) × (vertices ≤ 200000)
AreOnWay (file.Vertices ∷ rest) vertices edges = rest ≡ file.Edges ∷ []
AreOnWay (file.Seed ∷ rest) vertices edges = rest ≡ file.Vertices ∷ file.Edges ∷ []
AreOnWay (file.Manifest ∷ rest) vertices edges = ⊥
AreOnWay (file.Queries ∷ rest) vertices edges = ⊥
AreOnWay (file.Trace ∷ rest) vertices edges = ⊥

abbrev IsOnWay : List FileWord → Options → Type 0
IsOnWay missing options = options.command ≡ command.Gen → AreOnWay missing options.vertices options.edges

-- ---- an option, and a file word

-- what is so whatever is said is so of what was said
set : {X : Type 0} (P : Options → Type 0) (f : X → Options) (o : Option X) (new : Options) → ((x : X) → o ≡ Some x → P (f x)) → option_map f o ≡ Some new → P new
set P f None new each e = cc
set P f (Some x) new each e =
    let same : f x ≡ new = cc in
    subst P same (each x refl)

setting_sizes : (missing : List FileWord) (asked : Setting) (word : List ℕ) (old new : Options) → IsOnWay missing old → with_setting asked word old ≡ Some new → IsOnWay missing new
setting_sizes missing setting.Machines word old new it e = set (IsOnWay missing) (λ n. record old { machines = n }) (number_in 1 8 word) new (λ n is. it) e
setting_sizes missing setting.Workers word old new it e = set (IsOnWay missing) (λ n. record old { workers = n }) (number_in 1 8 word) new (λ n is. it) e
setting_sizes missing setting.Threads word old new it e = set (IsOnWay missing) (λ n. record old { threads = n }) (number_in 0 64 word) new (λ n is. it) e
setting_sizes missing setting.Credits word old new it e = set (IsOnWay missing) (λ n. record old { credits = n }) (number_in 1 8 word) new (λ n is. it) e
setting_sizes missing setting.Broad word old new it e = set (IsOnWay missing) (λ n. record old { broad = n }) (number_in 0 16 word) new (λ n is. it) e
setting_sizes missing setting.Buffer word old new it e = set (IsOnWay missing) (λ n. record old { buffer = n }) (number_in 1 64 word) new (λ n is. it) e
setting_sizes missing setting.Part word old new it e = set (IsOnWay missing) (λ part. record old { part = part }) (part_of word) new (λ part is. it) e
setting_sizes missing setting.Lanes word old new it e = set (IsOnWay missing) (λ n. record old { lanes = n }) (number_in 1 8 word) new (λ n is. it) e
setting_sizes missing setting.Pool word old new it e = set (IsOnWay missing) (λ n. record old { pool = n }) (number_in 1 115200 word) new (λ n is. it) e
setting_sizes missing setting.Schedule word old new it e = set (IsOnWay missing) (λ n. record old { seed = n }) (number_in 0 (2 ^ 64 - 1) word) new (λ n is. it) e

-- a file's name is no word of `gen`
no_file : (rest : List FileWord) (word : List ℕ) (old new : Options) → (old.command ≡ command.Gen → ⊥) → with_file word old ≡ Some new → IsOnWay rest new
no_file rest word old new other e = by (is_file_text word) e
  where
    by : (b : Bool) → cond b (Some (record old { files = old.files ++ word ∷ [] })) None ≡ Some new → IsOnWay rest new
    by true f =
        let same : record old { files = old.files ++ word ∷ [] } ≡ new = cc in
        subst (IsOnWay rest) same (λ gen. absurd (other gen))
    by false f = cc

file_sizes : (asked : FileWord) (rest : List FileWord) (word : List ℕ) (old new : Options) → IsOnWay (asked ∷ rest) old → with_file_word asked word old ≡ Some new → IsOnWay rest new
file_sizes file.Manifest rest word old new it e = no_file rest word old new it e
file_sizes file.Queries rest word old new it e = no_file rest word old new it e
file_sizes file.Trace rest word old new it e = no_file rest word old new it e
file_sizes file.Seed rest word old new it e =
    set (IsOnWay rest) (λ n. record old { seed = n }) (number_in 0 (2 ^ 64 - 1) word) new
    (λ n is gen. subst (λ r. AreOnWay r old.vertices old.edges) (sym (it gen)) refl) e
file_sizes file.Vertices rest word old new it e =
    set (IsOnWay rest) (λ n. record old { vertices = n }) (number_in 1 200000 word) new
    (λ n is gen. let range = number_range 1 200000 word n is in subst (λ r. AreOnWay r n old.edges) (sym (it gen)) (refl, range.0, range.1)) e
file_sizes file.Edges rest word old new it e =
    set (IsOnWay rest) (λ n. record old { edges = n }) (number_in 0 (8 * old.vertices) word) new
    (λ n is gen.
    let range = number_range 0 (8 * old.vertices) word n is in
    let so_far = it gen in
    subst (λ r. AreOnWay r old.vertices n) (sym so_far.0) (so_far.1, so_far.2, range.1)) e

-- ---- one word after the other

abbrev IsSoFar : Said → Type 0
IsSoFar said = IsOnWay said.missing said.options

said_from : (after next : Said) → Some after ≡ Some next → IsSoFar after → IsSoFar next
said_from after next e it =
    let same : after ≡ next = cc in
    subst IsSoFar same it

value_sizes : (asked : Setting) (word : List ℕ) (said next : Said) → IsSoFar said → read_value asked word said ≡ Some next → IsSoFar next
value_sizes asked word said next it e = by (with_setting asked word said.options) refl e
  where
    by : (o : Option Options) → with_setting asked word said.options ≡ o
        → option_map (λ options. record said { options = options; awaited = None }) o ≡ Some next → IsSoFar next
    by None is f = cc
    by (Some options) is f = said_from (record said { options = options; awaited = None }) next f (setting_sizes said.missing asked word said.options options it is)

named_sizes : (value : Option (List ℕ)) (asked : Setting) (said next : Said) → IsSoFar said → read_named value asked said ≡ Some next → IsSoFar next
named_sizes None asked said next it e = said_from (record said { awaited = Some asked }) next e it
named_sizes (Some value) asked said next it e = value_sizes asked value said next it e

at_sizes : (value : Option (List ℕ)) (said next : Said) (place : ℕ) → IsSoFar said → read_at value said place ≡ Some next → IsSoFar next
at_sizes value said next place it e = by (slice_get said.left place) e
  where
    by : (o : Option Setting) → option_and_then (λ asked. read_named value asked (record said { left = remove said.left place })) o ≡ Some next → IsSoFar next
    by None f = cc
    by (Some asked) f = named_sizes value asked (record said { left = remove said.left place }) next it f

option_sizes : (parts : List ℕ × Option (List ℕ)) (said next : Said) → IsSoFar said → read_cut parts said ≡ Some next → IsSoFar next
option_sizes parts said next it e = by (place_of parts.0 said.left) e
  where
    by : (o : Option ℕ) → option_and_then (read_at parts.1 said) o ≡ Some next → IsSoFar next
    by None f = cc
    by (Some place) f = at_sizes parts.1 said next place it f

files_sizes : (missing : List FileWord) (word : List ℕ) (said next : Said) → IsOnWay missing said.options → read_file_as missing word said ≡ Some next → IsSoFar next
files_sizes [] word said next it e = cc
files_sizes (asked ∷ missing) word said next it e = by (with_file_word asked word said.options) refl e
  where
    by : (o : Option Options) → with_file_word asked word said.options ≡ o
        → option_map (λ options. record said { options = options; missing = missing }) o ≡ Some next → IsSoFar next
    by None is f = cc
    by (Some options) is f = said_from (record said { options = options; missing = missing }) next f (file_sizes asked missing word said.options options it is)

word_sizes : (awaited : Option Setting) (word : List ℕ) (said next : Said) → IsSoFar said → read_by awaited word said ≡ Some next → IsSoFar next
word_sizes (Some asked) word said next it e = value_sizes asked word said next it e
word_sizes None word said next it e = by (slice_index word 0 == 45) e
  where
    by : (b : Bool) → cond b (read_option word said) (read_file word said) ≡ Some next → IsSoFar next
    by true f = option_sizes (cut_at 61 word) said next it f
    by false f = files_sizes said.missing word said next it f

finished_sizes : (said : Said) (place : ℕ) (options : Options) → IsSoFar said → ok_or (finished said) place ≡ Ok options → IsSized options
finished_sizes said place options it e = by said.awaited said.missing it e
  where
    by : (awaited : Option Setting) (missing : List FileWord) → IsOnWay missing said.options → ok_or (finished_by awaited missing said.options) place ≡ Ok options → IsSized options
    by None [] way f =
        let same : said.options ≡ options = cc in
        subst IsSized same way
    by None (file ∷ missing) way f = cc
    by (Some asked) missing way f = cc

read_on_sizes : (words : List (List ℕ)) (place : ℕ) (said : Said) (options : Options) → IsSoFar said → read_on words place said ≡ Ok options → IsSized options
read_on_sizes [] place said options it e = finished_sizes said place options it e
read_on_sizes (word ∷ words) place said options it e = by (λ next. read_on_sizes words (place + 1) next options) (read_word word said) refl
  where
    by : ((next : Said) → IsSoFar next → read_on words (place + 1) next ≡ Ok options → IsSized options)
        → (o : Option Said) → read_word word said ≡ o → IsSized options
    by rest None is =
        let err = read_on-none word words place said is in
        cc
    by rest (Some next) is = rest next (word_sizes said.awaited word said next it is) (sym (read_on-some word words place said next is) ∙ e)

sizes_at_first : (asking : Command) → IsSoFar (at_first asking)
sizes_at_first command.Gen is = refl
sizes_at_first command.Run is = cc
sizes_at_first command.Trace is = cc
sizes_at_first command.Replay is = cc
sizes_at_first command.Plan is = cc
sizes_at_first command.Help is = cc

after_sizes : (asking : Option Command) (words : List (List ℕ)) (options : Options) → read_after asking words ≡ Ok options → IsSized options
after_sizes None words options e = cc
after_sizes (Some asking) words options e = read_on_sizes words 1 (at_first asking) options (sizes_at_first asking) e

-- what the words of a command line say is in its range
pub sizes_of : (words : List (List ℕ)) (options : Options) → options_of words ≡ Ok options → IsSized options
sizes_of [] options e = cc
sizes_of (word ∷ words) options e = after_sizes (command_named word) words options e
