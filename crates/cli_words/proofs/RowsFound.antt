-- The rows that `clap` holds while it reads words of the forms that this crate accepts.
use Rattle.std.proofs.Common.{◌≡◌, ◌∙◌, ◌+◌, ◌||◌, arith, cond, refl, ap, ℕ, Bool, true, false, List, [], ◌∷◌, ◌++◌, append-nil, nat_lt, Some, None}
use Rattle.std.specs.List.{count_by, list_any}
use Rattle.std.specs.Str.{bytes_eq}
use Rattle.std.proofs.Math.Bool.{and-false}
use Rattle.std.proofs.lemmas.List.Sums.{sum_by-cons}
use Rattle.std.proofs.lemmas.Slice.Eq.{bytes_eq-Decides}
use Rattle.clap.specs.Takes.{option_passes, positional_passes, settle_passes}
use Rattle.clap.specs.Walk.{Held, Row, Text, at_row, arg_by_id, has_row, is_pending, more_values, most_values, pending_count, positional_held, pushed, reacted, settled, used, used_by_id, with_values, without}
use Rattle.clap.specs.declared.builder.value_parser.Reading.TheVariants as reading
use Rattle.clap.specs.declared.parser.matches.ValueSource.TheVariants.{CommandLine}
use Rattle.cli_words.specs.Line.{long_name}
use Rattle.cli_words.specs.Rows.{file_word_name}
use Rattle.cli_words.specs.declared.command.Command.{Command}
use Rattle.cli_words.specs.declared.file_word.FileWord.{FileWord}
use Rattle.cli_words.specs.declared.setting.Setting.{Setting}
use Rattle.cli_words.proofs.LineRules.{IsFileRule, built_file, built_option, built_rules}

-- what is found for one use with one value
abbrev pub row : Text → Text → Row
row id text = record { id = id; values = text ∷ []; count = None; source = Some CommandLine; reading = reading.AsWritten }

-- nothing is pending
abbrev pub only_rows : List Row → Held
only_rows rows = record { rows = rows; pending = None; skip = 0 }

-- the option of that id waits for its value
abbrev pub rows_and_option : List Row → Text → Held
rows_and_option rows id = record { rows = rows; pending = Some (id, []); skip = 0 }

missing-row : (id : Text) (change : Row → List Row) (missing rows : List Row) → has_row id rows ≡ false → at_row id change missing rows ≡ rows ++ missing
missing-row id change missing [] lacks = refl
missing-row id change missing (r ∷ rows) lacks = by (bytes_eq r.id id) (λ e. missing-row id change missing rows e) lacks
  where
    by : (b : Bool) → (has_row id rows ≡ false → at_row id change missing rows ≡ rows ++ missing) → (b || has_row id rows) ≡ false
        → cond b (change r ++ rows) (r ∷ at_row id change missing rows) ≡ r ∷ (rows ++ missing)
    by true later e = cc
    by false later e = ap (λ rest. r ∷ rest) (later e)

-- a first use adds its row at the end
pub first_use : (id text : Text) (rows : List Row) → has_row id rows ≡ false
    → with_values id reading.AsWritten CommandLine (text ∷ []) (without id rows) ≡ rows ++ row id text ∷ []
first_use id text rows lacks =
    let same : without id rows ≡ rows = missing-row id (λ r. []) [] rows lacks ∙ append-nil rows in
    ap (λ old. with_values id reading.AsWritten CommandLine (text ∷ []) old) same
    ∙ missing-row id (more_values CommandLine (text ∷ [])) (row id text ∷ []) rows lacks

-- what is held settles to these rows, and nothing in it is refused
pub record Settles (command : Command) (rows : List Row) (h : Held) : Type 0 where
  pub settles : settled (built_rules command) h ≡ only_rows rows
  pub passes : settle_passes (built_rules command) false h ≡ true

module _ (command : Command) (rows : List Row) where
  pub settles_at_once : (h : Held) → h ≡ only_rows rows → Settles command rows h
  settles_at_once h is = rw is (record { settles = refl; passes = refl })

  -- an option with its value after it
  pub given_held : (s : Setting) (text : Text) (h : Held) → Settles command rows h → has_row (long_name s) rows ≡ false
      → reacted (built_rules command) (built_option s) (text ∷ []) h ≡ only_rows (rows ++ row (long_name s) text ∷ [])
  given_held s text h held lacks =
      let skip : h.skip ≡ 0 = ap (λ (x : Held). x.skip) held.settles in
      let old : (settled (built_rules command) h).rows ≡ rows = ap (λ (x : Held). x.rows) held.settles in
      let new : used (built_option s) (text ∷ []) (settled (built_rules command) h).rows ≡ rows ++ row (long_name s) text ∷ [] =
      ap (used (built_option s) (text ∷ [])) old ∙ first_use (long_name s) text rows lacks in
      λ i. record { rows = new i; pending = None; skip = skip i }

  pub given_passes : (s : Setting) (text : Text) (h : Held) → Settles command rows h → has_row (long_name s) rows ≡ false
      → option_passes (built_rules command) false (built_option s) (Some text) h ≡ true
  given_passes s text h held lacks =
      let old : (settled (built_rules command) h).rows ≡ rows = ap (λ (x : Held). x.rows) held.settles in
      rw (held.passes, old, lacks) refl

  -- an option alone
  pub named_held : (s : Setting) (h : Held) → Settles command rows h
      → record (settled (built_rules command) h) { pending = Some (long_name s, []) } ≡ rows_and_option rows (long_name s)
  named_held s h held = ap (λ (x : Held). record x { pending = Some (long_name s, []) }) held.settles

  -- an option's value that is still pending
  pub value_settles : (s : Setting) (text : Text) → arg_by_id (built_rules command) (long_name s) ≡ Some (built_option s) → has_row (long_name s) rows ≡ false
      → Settles command (rows ++ row (long_name s) text ∷ []) (pushed (long_name s) text (rows_and_option rows (long_name s)))
  value_settles s text by_id lacks =
      let new : used_by_id (arg_by_id (built_rules command) (long_name s)) (text ∷ []) rows ≡ rows ++ row (long_name s) text ∷ [] =
      ap (λ a. used_by_id a (text ∷ []) rows) by_id ∙ first_use (long_name s) text rows lacks in
      record { settles = ap only_rows new; passes = rw (by_id, lacks) refl }

  -- it is the one value that the option takes
  pub value_is_last : (s : Setting) (text : Text)
      → nat_lt (pending_count (built_option s) (pushed (long_name s) text (rows_and_option rows (long_name s))).pending) (most_values (built_option s)) ≡ false
  value_is_last s text = let same : bytes_eq (long_name s) (long_name s) ≡ true = (bytes_eq-Decides (long_name s) (long_name s)).1 refl in rw same refl

  -- a word in its place
  pub placed_held : (place : ℕ) (f : FileWord) (text : Text) (h : Held) → Settles command rows h
      → positional_held (built_rules command) (built_file place f) text h ≡ pushed (file_word_name f) text (only_rows rows)
  placed_held place f text h held =
      rw (and-false (is_pending (built_file place f) h.pending)) (ap (λ (x : Held). pushed (file_word_name f) text x) held.settles)

  pub placed_passes : (place : ℕ) (f : FileWord) (h : Held) → Settles command rows h
      → positional_passes (built_rules command) false (built_file place f) h ≡ true
  placed_passes place f h held = rw (and-false (is_pending (built_file place f) h.pending)) held.passes

  pub file_settles : (k : ℕ) (f : FileWord) (text : Text) → IsFileRule command k f → has_row (file_word_name f) rows ≡ false
      → Settles command (rows ++ row (file_word_name f) text ∷ []) (pushed (file_word_name f) text (only_rows rows))
  file_settles k f text is lacks =
      let by_id : arg_by_id (built_rules command) (file_word_name f) ≡ Some (built_file (k + 1) f) = is.by_id in
      let new : used_by_id (arg_by_id (built_rules command) (file_word_name f)) (text ∷ []) rows ≡ rows ++ row (file_word_name f) text ∷ [] =
      ap (λ a. used_by_id a (text ∷ []) rows) by_id ∙ first_use (file_word_name f) text rows lacks in
      record { settles = ap only_rows new; passes = rw (by_id, lacks) refl }

-- ---- how many rows an id has

abbrev pub id_count : Text → List Row → ℕ
id_count id rows = count_by (λ (r : Row). bytes_eq r.id id) rows

pub none_counted : {X : Type 0} (p : X → Bool) (xs : List X) → count_by p xs ≡ 0 → list_any p xs ≡ false
none_counted p [] e = refl
none_counted p (x ∷ xs) e = by (p x) refl (λ f. none_counted p xs f)
  where
    sum : count_by p (x ∷ xs) ≡ cond (p x) 1 0 + count_by p xs
    sum = sum_by-cons (λ y. cond (p y) 1 0) x xs

    by : (b : Bool) → p x ≡ b → (count_by p xs ≡ 0 → list_any p xs ≡ false) → (p x || list_any p xs) ≡ false
    by true is later = let one : ◌≡◌ {A = ℕ} (cond (p x) 1 0) 1 = rw is refl in absurd (omega (arith, sum, one, e))
    by false is later =
        let none : ◌≡◌ {A = ℕ} (cond (p x) 1 0) 0 = rw is refl in
        let rest : count_by p xs ≡ 0 = omega (arith, sum, none, e) in
        rw is (later rest)

pub no_row : (id : Text) (rows : List Row) → id_count id rows ≡ 0 → has_row id rows ≡ false
no_row id rows e = none_counted (λ (r : Row). bytes_eq r.id id) rows e

pub one_row_more : (id : Text) (rows : List Row) (name text : Text) → id_count id (rows ++ row name text ∷ []) ≡ id_count id rows + cond (bytes_eq name id) 1 0
one_row_more id [] name text = let sum = sum_by-cons (λ (x : Row). cond (bytes_eq x.id id) 1 0) (row name text) [] in omega (arith, sum)
one_row_more id (r ∷ rows) name text =
    let rest = one_row_more id rows name text in
    let old = sum_by-cons (λ (x : Row). cond (bytes_eq x.id id) 1 0) r rows in
    let new = sum_by-cons (λ (x : Row). cond (bytes_eq x.id id) 1 0) r (rows ++ row name text ∷ []) in
    omega (arith, rest, old, new)
