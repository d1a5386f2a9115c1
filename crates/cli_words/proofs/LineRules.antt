-- What `clap` builds of a command's line, and which rule it finds for a name, an id and a place.
use Rattle.std.proofs.Common.{◌≡◌, ◌∙◌, ◌+◌, ◌≤◌, ◌||◌, arith, cond, refl, sym, subst, ap, ℕ, zero, suc, Bool, true, false, List, [], ◌∷◌, ◌++◌, map, Option, Some, true≢false, IfSome}
use Rattle.std.specs.List.{find, fold, list_any}
use Rattle.std.specs.Prelude.{slice_get}
use Rattle.std.specs.Str.{bytes_eq}
use Rattle.std.proofs.lemmas.Slice.Eq.{bytes_eq-Decides}
use Rattle.clap.specs.Simple.{App, Shape, built, is_simple, new_rule, new_shape, with_rule}
use Rattle.clap.specs.Walk.{Rule, Text, arg_by_id, arg_by_index, arg_by_long}
use Rattle.clap.specs.declared.builder.action.ArgAction.TheVariants.{Set}
use Rattle.clap.specs.declared.builder.value_parser.ValueParser.TheVariants as vp
use Rattle.cli_words.specs.Line.{file_rule, line_of, long_name, option_rule}
use Rattle.cli_words.specs.Rows.{command_name, file_word_name, file_words_of, settings_of}
use Rattle.cli_words.specs.declared.command.Command.{Command}
use Rattle.cli_words.specs.declared.command.Command.TheVariants.{Run, Trace, Replay, Plan, Gen, Help}
use Rattle.cli_words.specs.declared.file_word.FileWord.{FileWord}
use Rattle.cli_words.specs.declared.file_word.FileWord.TheVariants as file
use Rattle.cli_words.specs.declared.setting.Setting.{Setting}
use Rattle.cli_words.specs.declared.setting.Setting.TheVariants as setting

-- ---- what is built

-- an argument that takes one value as it is
abbrev pub one_value : Rule → Rule
one_value rule = record rule { action = Some Set; parser = Some vp.String; range = Some (record { start_inclusive = 1; end_inclusive = 1 }) }

abbrev pub built_option : Setting → Rule
built_option s = record (one_value (new_rule (long_name s))) { long = Some (long_name s) }

abbrev pub built_file : ℕ → FileWord → Rule
built_file place f = record (one_value (new_rule (file_word_name f))) { index = Some place }

abbrev pub built_files : ℕ → List FileWord → List Rule
built_files place [] = []
built_files place (f ∷ files) = built_file place f ∷ built_files (place + 1) files

abbrev pub built_rules : Command → List Rule
built_rules command = map built_option (settings_of command) ++ built_files 1 (file_words_of command)

abbrev pub built_shape : Command → Shape
built_shape command = record (new_shape (command_name command)) {
  rules = built_rules command;
  disable_help_flag = true;
  disable_help_subcommand = true;
  disable_version_flag = true;
  is_built = true;
}

abbrev pub built_line : Command → App
built_line command = record { top = built_shape command; subs = [] }

pub built-line_of : (command : Command) → built (line_of command) ≡ built_line command
built-line_of Run = refl
built-line_of command = refl

pub line-is_simple : (command : Command) → is_simple (line_of command) ≡ true
line-is_simple Run = refl
line-is_simple command = refl

-- a line without the flags that `clap` adds
abbrev pub no_flags : Text → App
no_flags name = record { top = record (new_shape name) { disable_help_flag = true; disable_version_flag = true }; subs = [] }

-- it is what `Command::arg` makes of the options and the file words in turn
pub line-made : (command : Command)
    → fold with_rule (fold with_rule (no_flags (command_name command)) (map option_rule (settings_of command))) (map file_rule (file_words_of command)) ≡ line_of command
line-made Run = refl
line-made command = refl

-- ---- options

abbrev settings : List Setting
settings = setting.Machines ∷ setting.Workers ∷ setting.Threads ∷ setting.Credits ∷ setting.Broad ∷ setting.Buffer ∷ setting.Part ∷ setting.Lanes ∷ setting.Pool ∷ setting.Schedule ∷ []

abbrev pub has_name : Text → Setting → Bool
has_name name x = bytes_eq (long_name x) name

named : (s : Setting) → find (has_name (long_name s)) settings ≡ Some s
named setting.Machines = refl
named s = refl

-- no two options have one name
pub one_name : (x s : Setting) → bytes_eq (long_name x) (long_name s) ≡ true → x ≡ s
one_name x s e =
    let same : long_name x ≡ long_name s = (bytes_eq-Decides (long_name x) (long_name s)).0 e in
    let found : Some x ≡ Some s = sym (named x) ∙ (ap (λ name. find (has_name name) settings) same ∙ named s) in
    cc

-- the option is one of these
abbrev pub has_setting : Setting → List Setting → Bool
has_setting s xs = list_any (has_name (long_name s)) xs

pub option_by_long : (s : Setting) (xs : List Setting) (rest : List Rule) → has_setting s xs ≡ true → arg_by_long (map built_option xs ++ rest) (long_name s) ≡ Some (built_option s)
option_by_long s [] rest e = absurd (true≢false (sym e))
option_by_long s (x ∷ xs) rest e = by (bytes_eq (long_name x) (long_name s)) refl (λ later. option_by_long s xs rest later) e
  where
    by : (b : Bool) → bytes_eq (long_name x) (long_name s) ≡ b
        → (has_setting s xs ≡ true → arg_by_long (map built_option xs ++ rest) (long_name s) ≡ Some (built_option s))
        → (b || has_setting s xs) ≡ true
        → cond (b || false) (Some (built_option x)) (arg_by_long (map built_option xs ++ rest) (long_name s)) ≡ Some (built_option s)
    by true is later f = ap (λ y. Some (built_option y)) (one_name x s is)
    by false is later f = later f

pub option_by_id : (s : Setting) (xs : List Setting) (rest : List Rule) → has_setting s xs ≡ true → arg_by_id (map built_option xs ++ rest) (long_name s) ≡ Some (built_option s)
option_by_id s [] rest e = absurd (true≢false (sym e))
option_by_id s (x ∷ xs) rest e = by (bytes_eq (long_name x) (long_name s)) refl (λ later. option_by_id s xs rest later) e
  where
    by : (b : Bool) → bytes_eq (long_name x) (long_name s) ≡ b
        → (has_setting s xs ≡ true → arg_by_id (map built_option xs ++ rest) (long_name s) ≡ Some (built_option s))
        → (b || has_setting s xs) ≡ true
        → cond b (Some (built_option x)) (arg_by_id (map built_option xs ++ rest) (long_name s)) ≡ Some (built_option s)
    by true is later f = ap (λ y. Some (built_option y)) (one_name x s is)
    by false is later f = later f

-- ---- file words

-- the rule of the file word, by its place and by its id
pub record IsFileRule (command : Command) (k : ℕ) (f : FileWord) : Type 0 where
  pub by_index : arg_by_index (built_rules command) (k + 1) ≡ Some (built_file (k + 1) f)
  pub by_id : arg_by_id (built_rules command) (file_word_name f) ≡ Some (built_file (k + 1) f)
  pub early : k ≤ 2

here : (command : Command) (k : ℕ) (f : FileWord) → arg_by_index (built_rules command) (k + 1) ≡ Some (built_file (k + 1) f)
    → arg_by_id (built_rules command) (file_word_name f) ≡ Some (built_file (k + 1) f) → k ≤ 2 → IsFileRule command k f
here command k f by_index by_id early = record { by_index = by_index; by_id = by_id; early = early }

file_rules : (command : Command) (k : ℕ) → IfSome (slice_get (file_words_of command) k) (λ f. IsFileRule command k f)
file_rules Run zero = here Run 0 file.Manifest refl refl (omega arith)
file_rules Run (suc zero) = here Run 1 file.Queries refl refl (omega arith)
file_rules Run (suc (suc k)) = tt
file_rules Trace zero = here Trace 0 file.Manifest refl refl (omega arith)
file_rules Trace (suc zero) = here Trace 1 file.Queries refl refl (omega arith)
file_rules Trace (suc (suc k)) = tt
file_rules Replay zero = here Replay 0 file.Trace refl refl (omega arith)
file_rules Replay (suc k) = tt
file_rules Plan zero = here Plan 0 file.Manifest refl refl (omega arith)
file_rules Plan (suc zero) = here Plan 1 file.Queries refl refl (omega arith)
file_rules Plan (suc (suc k)) = tt
file_rules Gen zero = here Gen 0 file.Seed refl refl (omega arith)
file_rules Gen (suc zero) = here Gen 1 file.Vertices refl refl (omega arith)
file_rules Gen (suc (suc zero)) = here Gen 2 file.Edges refl refl (omega arith)
file_rules Gen (suc (suc (suc k))) = tt
file_rules Help k = tt

pub file_rule_at : (command : Command) (k : ℕ) (f : FileWord) → slice_get (file_words_of command) k ≡ Some f → IsFileRule command k f
file_rule_at command k f at = subst (λ (o : Option FileWord). IfSome o (λ f. IsFileRule command k f)) at (file_rules command k)
