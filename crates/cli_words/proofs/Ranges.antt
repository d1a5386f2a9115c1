-- What the words of a command line say is within the limits of a run.
use Rattle.std.proofs.Common.{◌≡◌, ◌∙◌, ◌+◌, ◌++◌, ◌≤◌, ◌&&◌, nat_le, arith, cond, lit≤, refl, sym, subst, ℕ, Bool, true, false, List, [], ◌∷◌, Option, Some, None, Ok}
use Rattle.std.specs.Prelude.{slice_get, slice_index, ok_or, option_and_then, option_map, ◌==◌, ◌^◌, ◌-◌, ◌*◌}
use Rattle.std.specs.List.{remove}
use Rattle.std.proofs.lemmas.Bool.Decides.{nat_tests}
use Rattle.std.proofs.lemmas.Grind.{common_steps}
use Rattle.cli_words.specs.Form.{finished, finished_by, place_of, read_at, read_by, read_cut, read_file, read_file_as, read_named, read_on, read_option, read_value, read_word}
use Rattle.cli_words.specs.Ranges.{IsBetween, IsWithinLimits}
use Rattle.cli_words.specs.Said.{Said, at_first}
use Rattle.cli_words.specs.Values.{cut_at, is_file_text, number_in, number_of, part_of, with_file, with_file_word, with_setting, within}
use Rattle.cli_words.specs.declared.command.Command.{Command}
use Rattle.cli_words.specs.declared.options.Options.{Options}
use Rattle.cli_words.specs.declared.file_word.FileWord.{FileWord}
use Rattle.cli_words.specs.declared.file_word.FileWord.TheVariants as file
use Rattle.cli_words.specs.declared.setting.Setting.{Setting}
use Rattle.cli_words.specs.declared.setting.Setting.TheVariants as setting
use Rattle.cli_words.proofs.Completions.{read_on-none, read_on-some}

-- ---- a number is in its range

both_true : (a b : Bool) → (a && b) ≡ true → (a ≡ true) × (b ≡ true)
both_true true b is = (refl, is)
both_true false b is = cc

within_range : (least greatest m n : ℕ) → within least greatest m ≡ Some n → IsBetween least greatest n
within_range least greatest m n e = by (nat_le least m && nat_le m greatest) refl e
  where
    by : (b : Bool) → (nat_le least m && nat_le m greatest) ≡ b → cond b (Some m) None ≡ Some n → IsBetween least greatest n
    by true is f =
        let same : m ≡ n = cc in
        let both = both_true (nat_le least m) (nat_le m greatest) is in
        let low = both.0 in
        let high = both.1 in
        let at_least : least ≤ m = grind (arith, nat_tests) in
        let at_most : m ≤ greatest = grind (arith, nat_tests) in
        (omega (arith, same, at_least), omega (arith, same, at_most))
    by false is f = cc

number_range : (least greatest : ℕ) (word : List ℕ) (n : ℕ) → number_in least greatest word ≡ Some n → IsBetween least greatest n
number_range least greatest word n e = by (number_of word) e
  where
    by : (o : Option ℕ) → option_and_then (within least greatest) o ≡ Some n → IsBetween least greatest n
    by None f = cc
    by (Some m) f = within_range least greatest m n f

-- ---- an option, and a file word

set : {X : Type 0} (f : X → Options) (o : Option X) (new : Options) → ((x : X) → o ≡ Some x → IsWithinLimits (f x)) → option_map f o ≡ Some new → IsWithinLimits new
set f None new each e = cc
set f (Some x) new each e =
    let same : f x ≡ new = cc in
    subst IsWithinLimits same (each x refl)

-- the same where the field has no limit here
kept : (old new : Options) → new.machines ≡ old.machines → new.workers ≡ old.workers → new.credits ≡ old.credits → new.broad ≡ old.broad → new.buffer ≡ old.buffer
    → IsWithinLimits old → IsWithinLimits new
kept old new machines workers credits broad buffer it = record {
  machines = subst (IsBetween 1 8) (sym machines) it.machines;
  workers = subst (IsBetween 1 8) (sym workers) it.workers;
  credits = subst (IsBetween 1 8) (sym credits) it.credits;
  broad = subst (IsBetween 0 16) (sym broad) it.broad;
  buffer = subst (IsBetween 1 64) (sym buffer) it.buffer;
}

set_machines : (old : Options) (n : ℕ) → IsBetween 1 8 n → IsWithinLimits old → IsWithinLimits (record old { machines = n })
set_machines old n range it = record { machines = range; workers = it.workers; credits = it.credits; broad = it.broad; buffer = it.buffer }

set_workers : (old : Options) (n : ℕ) → IsBetween 1 8 n → IsWithinLimits old → IsWithinLimits (record old { workers = n })
set_workers old n range it = record { machines = it.machines; workers = range; credits = it.credits; broad = it.broad; buffer = it.buffer }

set_credits : (old : Options) (n : ℕ) → IsBetween 1 8 n → IsWithinLimits old → IsWithinLimits (record old { credits = n })
set_credits old n range it = record { machines = it.machines; workers = it.workers; credits = range; broad = it.broad; buffer = it.buffer }

set_broad : (old : Options) (n : ℕ) → IsBetween 0 16 n → IsWithinLimits old → IsWithinLimits (record old { broad = n })
set_broad old n range it = record { machines = it.machines; workers = it.workers; credits = it.credits; broad = range; buffer = it.buffer }

set_buffer : (old : Options) (n : ℕ) → IsBetween 1 64 n → IsWithinLimits old → IsWithinLimits (record old { buffer = n })
set_buffer old n range it = record { machines = it.machines; workers = it.workers; credits = it.credits; broad = it.broad; buffer = range }

setting_limits : (asked : Setting) (word : List ℕ) (old new : Options) → IsWithinLimits old → with_setting asked word old ≡ Some new → IsWithinLimits new
setting_limits setting.Machines word old new it e = set (λ n. record old { machines = n }) (number_in 1 8 word) new (λ n is. set_machines old n (number_range 1 8 word n is) it) e
setting_limits setting.Workers word old new it e = set (λ n. record old { workers = n }) (number_in 1 8 word) new (λ n is. set_workers old n (number_range 1 8 word n is) it) e
setting_limits setting.Threads word old new it e = set (λ n. record old { threads = n }) (number_in 0 64 word) new (λ n is. kept old (record old { threads = n }) refl refl refl refl refl it) e
setting_limits setting.Credits word old new it e = set (λ n. record old { credits = n }) (number_in 1 8 word) new (λ n is. set_credits old n (number_range 1 8 word n is) it) e
setting_limits setting.Broad word old new it e = set (λ n. record old { broad = n }) (number_in 0 16 word) new (λ n is. set_broad old n (number_range 0 16 word n is) it) e
setting_limits setting.Buffer word old new it e = set (λ n. record old { buffer = n }) (number_in 1 64 word) new (λ n is. set_buffer old n (number_range 1 64 word n is) it) e
setting_limits setting.Part word old new it e = set (λ part. record old { part = part }) (part_of word) new (λ part is. kept old (record old { part = part }) refl refl refl refl refl it) e
setting_limits setting.Lanes word old new it e = set (λ n. record old { lanes = n }) (number_in 1 8 word) new (λ n is. kept old (record old { lanes = n }) refl refl refl refl refl it) e
setting_limits setting.Pool word old new it e = set (λ n. record old { pool = n }) (number_in 1 115200 word) new (λ n is. kept old (record old { pool = n }) refl refl refl refl refl it) e
setting_limits setting.Schedule word old new it e =
    set (λ n. record old { seed = n }) (number_in 0 (2 ^ 64 - 1) word) new (λ n is. kept old (record old { seed = n }) refl refl refl refl refl it) e

with_file_limits : (word : List ℕ) (old new : Options) → IsWithinLimits old → with_file word old ≡ Some new → IsWithinLimits new
with_file_limits word old new it e = by (is_file_text word) e
  where
    by : (b : Bool) → cond b (Some (record old { files = old.files ++ word ∷ [] })) None ≡ Some new → IsWithinLimits new
    by true f =
        let same : record old { files = old.files ++ word ∷ [] } ≡ new = cc in
        subst IsWithinLimits same (kept old (record old { files = old.files ++ word ∷ [] }) refl refl refl refl refl it)
    by false f = cc

file_limits : (asked : FileWord) (word : List ℕ) (old new : Options) → IsWithinLimits old → with_file_word asked word old ≡ Some new → IsWithinLimits new
file_limits file.Manifest word old new it e = with_file_limits word old new it e
file_limits file.Queries word old new it e = with_file_limits word old new it e
file_limits file.Trace word old new it e = with_file_limits word old new it e
file_limits file.Seed word old new it e = set (λ n. record old { seed = n }) (number_in 0 (2 ^ 64 - 1) word) new (λ n is. kept old (record old { seed = n }) refl refl refl refl refl it) e
file_limits file.Vertices word old new it e =
    set (λ n. record old { vertices = n }) (number_in 1 200000 word) new (λ n is. kept old (record old { vertices = n }) refl refl refl refl refl it) e
file_limits file.Edges word old new it e =
    set (λ n. record old { edges = n }) (number_in 0 (8 * old.vertices) word) new (λ n is. kept old (record old { edges = n }) refl refl refl refl refl it) e

-- ---- one word after the other

said_from : (after next : Said) → Some after ≡ Some next → IsWithinLimits after.options → IsWithinLimits next.options
said_from after next e it =
    let same : after ≡ next = cc in
    let P : Said → Type 0 = λ said. IsWithinLimits said.options in
    subst P same it

value_limits : (asked : Setting) (word : List ℕ) (said next : Said) → IsWithinLimits said.options → read_value asked word said ≡ Some next → IsWithinLimits next.options
value_limits asked word said next it e = by (with_setting asked word said.options) refl e
  where
    by : (o : Option Options) → with_setting asked word said.options ≡ o
        → option_map (λ options. record said { options = options; awaited = None }) o ≡ Some next → IsWithinLimits next.options
    by None is f = cc
    by (Some options) is f = said_from (record said { options = options; awaited = None }) next f (setting_limits asked word said.options options it is)

named_limits : (value : Option (List ℕ)) (asked : Setting) (said next : Said) → IsWithinLimits said.options → read_named value asked said ≡ Some next → IsWithinLimits next.options
named_limits None asked said next it e = said_from (record said { awaited = Some asked }) next e it
named_limits (Some value) asked said next it e = value_limits asked value said next it e

at_limits : (value : Option (List ℕ)) (said next : Said) (place : ℕ) → IsWithinLimits said.options → read_at value said place ≡ Some next → IsWithinLimits next.options
at_limits value said next place it e = by (slice_get said.left place) e
  where
    by : (o : Option Setting) → option_and_then (λ asked. read_named value asked (record said { left = remove said.left place })) o ≡ Some next → IsWithinLimits next.options
    by None f = cc
    by (Some asked) f = named_limits value asked (record said { left = remove said.left place }) next it f

option_limits : (parts : List ℕ × Option (List ℕ)) (said next : Said) → IsWithinLimits said.options → read_cut parts said ≡ Some next → IsWithinLimits next.options
option_limits parts said next it e = by (place_of parts.0 said.left) e
  where
    by : (o : Option ℕ) → option_and_then (read_at parts.1 said) o ≡ Some next → IsWithinLimits next.options
    by None f = cc
    by (Some place) f = at_limits parts.1 said next place it f

files_limits : (missing : List FileWord) (word : List ℕ) (said next : Said) → IsWithinLimits said.options → read_file_as missing word said ≡ Some next → IsWithinLimits next.options
files_limits [] word said next it e = cc
files_limits (asked ∷ missing) word said next it e = by (with_file_word asked word said.options) refl e
  where
    by : (o : Option Options) → with_file_word asked word said.options ≡ o
        → option_map (λ options. record said { options = options; missing = missing }) o ≡ Some next → IsWithinLimits next.options
    by None is f = cc
    by (Some options) is f = said_from (record said { options = options; missing = missing }) next f (file_limits asked word said.options options it is)

word_limits : (awaited : Option Setting) (word : List ℕ) (said next : Said) → IsWithinLimits said.options → read_by awaited word said ≡ Some next → IsWithinLimits next.options
word_limits (Some asked) word said next it e = value_limits asked word said next it e
word_limits None word said next it e = by (slice_index word 0 == 45) e
  where
    by : (b : Bool) → cond b (read_option word said) (read_file word said) ≡ Some next → IsWithinLimits next.options
    by true f = option_limits (cut_at 61 word) said next it f
    by false f = files_limits said.missing word said next it f

finished_limits : (said : Said) (place : ℕ) (options : Options) → IsWithinLimits said.options → ok_or (finished said) place ≡ Ok options → IsWithinLimits options
finished_limits said place options it e = by said.awaited said.missing e
  where
    by : (awaited : Option Setting) (missing : List FileWord) → ok_or (finished_by awaited missing said.options) place ≡ Ok options → IsWithinLimits options
    by None [] f =
        let same : said.options ≡ options = cc in
        subst IsWithinLimits same it
    by None (file ∷ missing) f = cc
    by (Some asked) missing f = cc

read_on_limits : (words : List (List ℕ)) (place : ℕ) (said : Said) (options : Options) → IsWithinLimits said.options → read_on words place said ≡ Ok options → IsWithinLimits options
read_on_limits [] place said options it e = finished_limits said place options it e
read_on_limits (word ∷ words) place said options it e = by (λ next. read_on_limits words (place + 1) next options) (read_word word said) refl
  where
    by : ((next : Said) → IsWithinLimits next.options → read_on words (place + 1) next ≡ Ok options → IsWithinLimits options)
        → (o : Option Said) → read_word word said ≡ o → IsWithinLimits options
    by rest None is =
        let err = read_on-none word words place said is in
        cc
    by rest (Some next) is = rest next (word_limits said.awaited word said next it is) (sym (read_on-some word words place said next is) ∙ e)

limits_at_first : (command : Command) → IsWithinLimits (at_first command).options
limits_at_first command = record {
  machines = (lit≤ tt, lit≤ tt);
  workers = (lit≤ tt, lit≤ tt);
  credits = (lit≤ tt, lit≤ tt);
  broad = (lit≤ tt, lit≤ tt);
  buffer = (lit≤ tt, lit≤ tt);
}

-- what the words after a command's word say is within the limits
pub said_limits : (words : List (List ℕ)) (command : Command) (options : Options) → read_on words 1 (at_first command) ≡ Ok options → IsWithinLimits options
said_limits words command options e = read_on_limits words 1 (at_first command) options (limits_at_first command) e
