-- Words that make a command line are such as `clap` takes, and what it finds in them says the same options.
use Rattle.std.proofs.Common.{◌≡◌, ◌∙◌, ◌&&◌, cond, refl, sym, subst, ap, ap₂, ℕ, Bool, true, false, List, [], ◌∷◌, drop, map, Some, Result, Ok, Err, is_some, true≢false}
use Rattle.std.specs.Prelude.{IsOk, IsSome}
use Rattle.std.specs.List.{fold, list_all}
use Rattle.clap.proofs.SimpleLemmas.{is_nil}
use Rattle.clap.proofs.TakesLemmas.{leaf_takes}
use Rattle.clap.specs.Simple.{App, built, matches_of, names_of}
use Rattle.clap.specs.Takes.{built_takes, default_passes, is_valid, level_passes, takes}
use Rattle.clap.specs.Walk.{Held, Row, Rule, Text, default_rows, finished, has_row, is_empty, idle, nothing_held, reading_by, rows_after, walk, with_default}
use Rattle.cli_words.specs.Form.{read_on}
use Rattle.cli_words.specs.Line.{line_of}
use Rattle.cli_words.specs.Said.{at_first}
use Rattle.cli_words.specs.Taken.{options_found}
use Rattle.cli_words.specs.declared.command.Command.{Command}
use Rattle.cli_words.specs.declared.command.Command.TheVariants.{Run}
use Rattle.cli_words.specs.declared.options.Options.{Options}
use Rattle.cli_words.proofs.LineRules.{built-line_of, built_line, built_rules, built_shape, line-is_simple}
use Rattle.cli_words.proofs.RowsFound.{only_rows}
use Rattle.cli_words.proofs.SameWalk.{Goes, stands_at_first, words_go}
use Rattle.cli_words.proofs.Turns.{between}

-- no argument has a value that nobody gave
no_defaults : (rules : List Rule) (rows : List Row) → list_all (λ a. is_empty a.defaults) rules ≡ true → fold with_default rows rules ≡ rows
no_defaults [] rows e = refl
no_defaults (a ∷ rules) rows e = by (is_empty a.defaults) refl e (λ f. no_defaults rules rows f)
  where
    same : (b : Bool) → a.defaults ≡ [] → cond b rows (default_rows a.id (reading_by a) a.defaults rows) ≡ rows
    same true none = refl
    same false none = ap (λ values. default_rows a.id (reading_by a) values rows) none

    by : (b : Bool) → is_empty a.defaults ≡ b → (b && list_all (λ x. is_empty x.defaults) rules) ≡ true
        → (list_all (λ x. is_empty x.defaults) rules ≡ true → fold with_default rows rules ≡ rows) → fold with_default rows (a ∷ rules) ≡ rows
    by true is f later = ap (λ start. fold with_default start rules) (same (has_row a.id rows) (is_nil a.defaults is)) ∙ later f
    by false is f later = absurd (true≢false (sym f))

rules_without_defaults : (command : Command) → list_all (λ a. is_empty a.defaults) (built_rules command) ≡ true
rules_without_defaults Run = refl
rules_without_defaults command = refl

defaults_pass : (command : Command) → list_all default_passes (built_rules command) ≡ true
defaults_pass Run = refl
defaults_pass command = refl

any_rows_are_valid : (command : Command) (rows : List Row) → is_valid (built_shape command) rows false ≡ true
any_rows_are_valid Run rows = refl
any_rows_are_valid command rows = refl

all_four : (a b c d : Bool) → a ≡ true → b ≡ true → c ≡ true → d ≡ true → (a && (b && (c && d))) ≡ true
all_four a b c d e f g h = rw (e, f, g, h) refl

module _ (command : Command) (all : List Text) (options : Options) (said : read_on (drop 1 all) 1 (at_first command) ≡ Ok options) where
  goes : Goes command options (between (only_rows []) idle 1) (drop 1 all)
  goes = words_go command (drop 1 all) 1 (at_first command) (between (only_rows []) idle 1) options (stands_at_first command) said

  passes : level_passes (built_shape command) [] nothing_held (drop 1 all) false ≡ true
  passes = all_four _ _ _ _ goes.passes goes.ends.settles.passes (defaults_pass command)
      (any_rows_are_valid command (finished (built_rules command) (walk (built_rules command) [] nothing_held (drop 1 all)).held))

  pub words_taken : takes (line_of command) all ≡ true
  words_taken =
      let built_is : built_takes (built (line_of command)) nothing_held (drop 1 all) ≡ true =
      subst (λ a. built_takes a nothing_held (drop 1 all) ≡ true) (sym (built-line_of command)) (leaf_takes (built_line command) nothing_held (drop 1 all) refl passes) in
      ap₂ (λ a b. a && b) (line-is_simple command) built_is

  rows_are : matches_of (line_of command) all ≡ goes.ends.rows
  rows_are =
      ap (λ (a : App). rows_after a.top.rules (names_of a) (drop 1 all)) (built-line_of command)
      ∙ (ap (λ (h : Held). fold with_default h.rows (built_rules command)) goes.ends.settles.settles
      ∙ no_defaults (built_rules command) goes.ends.rows (rules_without_defaults command))

  pub words_found : options_found command (matches_of (line_of command) all) ≡ Some options
  words_found = ap (λ rows. options_found command rows) rows_are ∙ goes.ends.says

-- ---- the same of words that are no refused ones

said_options : (r : Result Options ℕ) → IsOk r → (options : Options) × (r ≡ Ok options)
said_options (Ok options) e = (options, refl)
said_options (Err place) e = absurd (true≢false (sym e))

module _ (command : Command) (all : List Text) (ok : IsOk (read_on (drop 1 all) 1 (at_first command))) where
  pub all_taken : takes (line_of command) all ≡ true
  all_taken = let said = said_options (read_on (drop 1 all) 1 (at_first command)) ok in words_taken command all said.0 said.1

  pub all_found : (rows : List Row) → rows ≡ matches_of (line_of command) all → IsSome (options_found command rows)
  all_found rows is =
      let said = said_options (read_on (drop 1 all) 1 (at_first command)) ok in
      let found : options_found command rows ≡ Some said.0 = ap (options_found command) is ∙ words_found command all said.0 said.1 in
      ap is_some found

  pub found_is_said : (rows : List Row) (options : Options) → rows ≡ matches_of (line_of command) all → options_found command rows ≡ Some options
      → read_on (drop 1 all) 1 (at_first command) ≡ Ok options
  found_is_said rows options is found =
      let said = said_options (read_on (drop 1 all) 1 (at_first command)) ok in
      let both : Some options ≡ Some said.0 = sym found ∙ (ap (options_found command) is ∙ words_found command all said.0 said.1) in
      let same : options ≡ said.0 = cc in
      said.1 ∙ ap (λ o. Ok o) (sym same)

-- the words after the first
pub rest_of : {X : Type 0} (text : X → Text) (words : List X) → map text (drop 1 words) ≡ drop 1 (map text words)
rest_of text [] = refl
rest_of text (word ∷ words) = refl
