-- The steps that `clap` takes over words of the forms that this crate accepts.
use Rattle.std.proofs.Common.{◌≡◌, ◌+◌, cond, refl, ℕ, true, false, [], ◌∷◌, min, Some, None, nat_lt}
use Rattle.clap.specs.Lexer.{usize_max}
use Rattle.clap.specs.Simple.{Shape}
use Rattle.clap.specs.Takes.{option_passes, positional_passes, settle_passes, turn_passes}
use Rattle.clap.specs.Walk.{Held, Rule, Text, Waiting, Walk, arg_by_id, arg_by_index, arg_by_long, idle, is_multiple, most_values, option, pending_count, positional_held, pushed, reacted, settled, takes_values, walked}
use Rattle.cli_words.proofs.LongWords.{IsLongWord, IsPlainWord}

-- between two words, before any `--`
abbrev pub between : Held → Waiting → ℕ → Walk
between held waiting position = record { held = held; waiting = waiting; position = position; is_trailing = false; stopped = None }

-- the word and what it does pass, and this is where the walk stands after it
pub record Turns (s : Shape) (w : Walk) (word : Text) (after : Walk) : Type 0 where
  pub passes : turn_passes s [] w word ≡ true
  pub goes : walked s.rules [] w word ≡ after

module _ (s : Shape) (h : Held) (p : ℕ) (word : Text) (a : Rule) where
  -- an option with its value after it
  pub given_turn : (name value : Text) → IsLongWord word name (Some value) → arg_by_long s.rules name ≡ Some a → takes_values a ≡ true
      → option_passes s.rules s.args_override_self a (Some value) h ≡ true
      → Turns s (between h idle p) word (between (reacted s.rules a (value ∷ []) h) idle p)
  unfolding walked
  given_turn name value is by_long takes passes = record {
    passes = rw (is.no_end, is.parts, by_long, takes, passes) refl;
    goes = rw (is.no_end, is.parts, by_long, takes) refl;
  }

  -- an option whose value is the next word
  pub named_turn : (name : Text) → IsLongWord word name None → arg_by_long s.rules name ≡ Some a → takes_values a ≡ true
      → settle_passes s.rules s.args_override_self h ≡ true
      → Turns s (between h idle p) word (between (record (settled s.rules h) { pending = Some (a.id, []) }) (option a.id) p)
  unfolding walked
  named_turn name is by_long takes passes = record {
    passes = rw (is.no_end, is.parts, by_long, takes, passes) refl;
    goes = rw (is.no_end, is.parts, by_long, takes) refl;
  }

  -- the value of the option before it
  pub value_turn : (id : Text) → IsPlainWord word → arg_by_id s.rules id ≡ Some a
      → Turns s (between h (option id) p) word (between (pushed id word h) (cond (nat_lt (pending_count a (pushed id word h).pending) (most_values a)) (option id) idle) p)
  unfolding walked
  value_turn id is by_id = record {
    passes = rw (is.no_end, is.no_long, is.no_short) refl;
    goes = rw (is.no_end, is.no_long, is.no_short, by_id) refl;
  }

  -- a word that stands in its place
  pub placed_turn : IsPlainWord word → arg_by_index s.rules p ≡ Some a → is_multiple a ≡ false → a.trailing_var_arg ≡ false
      → positional_passes s.rules s.args_override_self a h ≡ true
      → Turns s (between h idle p) word (between (positional_held s.rules a word h) idle (min (p + 1) usize_max))
  unfolding walked
  placed_turn is by_index single not_trailing passes = record {
    passes = rw (is.no_end, is.no_long, is.no_short, by_index, passes) refl;
    goes = rw (is.no_end, is.no_long, is.no_short, by_index, single, not_trailing) refl;
  }
