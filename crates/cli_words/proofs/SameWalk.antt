-- The reading of this crate and the walk of `clap` stand at the same place after each word that goes on.
use Rattle.std.proofs.Common.{◌≡◌, ◌∙◌, ◌+◌, ◌≤◌, ◌++◌, ◌&&◌, ◌||◌, arith, cond, refl, sym, subst, ap, ℕ, zero, suc, Bool, true, false, not, List, [], ◌∷◌, map, min, take, drop, get_or, Option, Some, None, Ok, true≢false}
use Rattle.std.specs.List.{count_by, fold, list_any, remove}
use Rattle.std.specs.Prelude.{ok_or, option_and_then, option_map, slice_get, slice_index, ◌==◌}
use Rattle.std.specs.Str.{bytes_eq}
use Rattle.std.proofs.lemmas.List.Quantifiers.{position-Some}
use Rattle.std.proofs.lemmas.List.Sums.{sum_by-cons}
use Rattle.std.proofs.lemmas.Slice.Eq.{bytes_eq-Decides}
use Rattle.clap.specs.Lexer.{usize_max}
use Rattle.clap.specs.Takes.{walk_passes}
use Rattle.clap.specs.Walk.{Held, Row, Text, Waiting, Walk, has_row, idle, option, pushed, reacted, settled, walked}
use Rattle.cli_words.specs.Defaults.{options_at_first}
use Rattle.cli_words.specs.Form.{finished_by, place_of, read_on, read_word, read_at, read_by, read_file_as, read_named, read_option, read_file, read_value}
use Rattle.cli_words.specs.Line.{long_name}
use Rattle.cli_words.specs.Rows.{file_word_name, file_words_of, setting_name, settings_of}
use Rattle.cli_words.specs.Said.{Said, at_first}
use Rattle.cli_words.specs.Values.{cut_at, with_file_word, with_setting}
use Rattle.cli_words.specs.declared.command.Command.{Command}
use Rattle.cli_words.specs.declared.command.Command.TheVariants.{Run}
use Rattle.cli_words.specs.declared.options.Options.{Options}
use Rattle.cli_words.specs.declared.file_word.FileWord.{FileWord}
use Rattle.cli_words.specs.declared.setting.Setting.{Setting}
use Rattle.cli_words.specs.Taken.{options_found, with_settings_found}
use Rattle.cli_words.proofs.Completions.{read_on-none, read_on-some}
use Rattle.cli_words.proofs.LineRules.{built_file, built_files, built_option, built_rules, built_shape, file_rule_at, has_name, has_setting, option_by_id, option_by_long}
use Rattle.cli_words.proofs.LongWords.{long_word, plain_word}
use Rattle.cli_words.proofs.PlainValues.{value_plain}
use Rattle.cli_words.proofs.RowsFound.{Settles, file_settles, given_held, given_passes, id_count, named_held, no_row, one_row_more, only_rows, placed_held, placed_passes, row, rows_and_option, settles_at_once, value_is_last, value_settles}
use Rattle.cli_words.proofs.Takings.{file_found, found_so_far, name_count, value_found}
use Rattle.cli_words.proofs.Turns.{Turns, between, given_turn, named_turn, placed_turn, value_turn}

-- ---- how often a name stands among the words that may still come

abbrev option_count : Text → List Setting → ℕ
option_count id xs = count_by (has_name id) xs

abbrev file_count : Text → List FileWord → ℕ
file_count id files = count_by (λ f. bytes_eq (file_word_name f) id) files

abbrev awaited_count : Text → Option Setting → ℕ
awaited_count id None = 0
awaited_count id (Some s) = cond (bytes_eq (long_name s) id) 1 0

not_any : {X : Type 0} (p : X → Bool) (xs : List X) → list_any p xs ≡ false → count_by p xs ≡ 0
not_any p [] e = refl
not_any p (x ∷ xs) e = by (p x) refl (λ f. not_any p xs f) e
  where
    sum : count_by p (x ∷ xs) ≡ cond (p x) 1 0 + count_by p xs
    sum = sum_by-cons (λ y. cond (p y) 1 0) x xs

    by : (b : Bool) → p x ≡ b → (list_any p xs ≡ false → count_by p xs ≡ 0) → (b || list_any p xs) ≡ false → count_by p (x ∷ xs) ≡ 0
    by true is later f = absurd (true≢false f)
    by false is later f =
        let none : ◌≡◌ {A = ℕ} (cond (p x) 1 0) 0 = rw is refl in
        let rest = later f in
        omega (arith, sum, none, rest)

counted_any : {X : Type 0} (p : X → Bool) (xs : List X) → 1 ≤ count_by p xs → list_any p xs ≡ true
counted_any p xs some = by (list_any p xs) refl
  where
    by : (b : Bool) → list_any p xs ≡ b → b ≡ true
    by true is = refl
    by false is = let none = not_any p xs is in absurd (omega (arith, none, some))

-- no two of the texts are the same
abbrev all_differ : List Text → Bool
all_differ [] = true
all_differ (x ∷ xs) = not (list_any (λ y. bytes_eq y x) xs) && all_differ xs

at_most_once : (xs : List Text) (id : Text) → all_differ xs ≡ true → count_by (λ x. bytes_eq x id) xs ≤ 1
at_most_once [] id e = omega arith
at_most_once (x ∷ xs) id e = by (list_any (λ y. bytes_eq y x) xs) refl e (bytes_eq x id) refl (λ f. at_most_once xs id f)
  where
    sum : count_by (λ y. bytes_eq y id) (x ∷ xs) ≡ cond (bytes_eq x id) 1 0 + count_by (λ y. bytes_eq y id) xs
    sum = sum_by-cons (λ y. cond (bytes_eq y id) 1 0) x xs

    by : (again : Bool) → list_any (λ y. bytes_eq y x) xs ≡ again → (not again && all_differ xs) ≡ true
        → (b : Bool) → bytes_eq x id ≡ b → (all_differ xs ≡ true → count_by (λ y. bytes_eq y id) xs ≤ 1) → count_by (λ y. bytes_eq y id) (x ∷ xs) ≤ 1
    by true again f b is later = absurd (true≢false (sym f))
    by false again f true is later =
        let one : ◌≡◌ {A = ℕ} (cond (bytes_eq x id) 1 0) 1 = rw is refl in
        let same : x ≡ id = (bytes_eq-Decides x id).0 is in
        let none : count_by (λ y. bytes_eq y id) xs ≡ 0 = subst (λ t. count_by (λ y. bytes_eq y t) xs ≡ 0) same (not_any (λ y. bytes_eq y x) xs again) in
        omega (arith, sum, one, none)
    by false again f false is later =
        let zero_here : ◌≡◌ {A = ℕ} (cond (bytes_eq x id) 1 0) 0 = rw is refl in
        let rest = later f in
        omega (arith, sum, zero_here, rest)

abbrev names_of : Command → List Text
names_of command = map file_word_name (file_words_of command) ++ map long_name (settings_of command)

all_names_differ : (command : Command) → all_differ (names_of command) ≡ true
all_names_differ Run = refl
all_names_differ command = refl

names-counted : (files : List FileWord) (xs : List Setting) (id : Text)
    → count_by (λ y. bytes_eq y id) (map file_word_name files ++ map long_name xs) ≡ file_count id files + option_count id xs
names-counted [] [] id = refl
names-counted [] (x ∷ xs) id =
    let rest = names-counted [] xs id in
    let left = sum_by-cons (λ y. cond (bytes_eq y id) 1 0) (long_name x) (map long_name xs) in
    let right = sum_by-cons (λ y. cond (has_name id y) 1 0) x xs in
    omega (arith, rest, left, right)
names-counted (f ∷ files) xs id =
    let rest = names-counted files xs id in
    let left = sum_by-cons (λ y. cond (bytes_eq y id) 1 0) (file_word_name f) (map file_word_name files ++ map long_name xs) in
    let right = sum_by-cons (λ y. cond (bytes_eq (file_word_name y) id) 1 0) f files in
    omega (arith, rest, left, right)

-- each name is one word's
named_once : (command : Command) (id : Text) → file_count id (file_words_of command) + option_count id (settings_of command) ≤ 1
named_once command id =
    let all = names-counted (file_words_of command) (settings_of command) id in
    let once = at_most_once (names_of command) id (all_names_differ command) in
    omega (arith, all, once)

one-removed : (p : Setting → Bool) (xs : List Setting) (i : ℕ) (x : Setting) → slice_get xs i ≡ Some x → count_by p (remove xs i) + cond (p x) 1 0 ≡ count_by p xs
one-removed p [] i x e = cc
one-removed p (y ∷ xs) zero x e =
    let same : y ≡ x = cc in
    let sum = sum_by-cons (λ z. cond (p z) 1 0) y xs in
    let one : ◌≡◌ {A = ℕ} (cond (p y) 1 0) (cond (p x) 1 0) = ap (λ z. cond (p z) 1 0) same in
    omega (arith, sum, one)
one-removed p (y ∷ xs) (suc i) x e =
    let rest = one-removed p xs i x e in
    let old = sum_by-cons (λ z. cond (p z) 1 0) y xs in
    let new = sum_by-cons (λ z. cond (p z) 1 0) y (remove xs i) in
    omega (arith, rest, old, new)

-- ---- where both stand

abbrev waiting_for : Option Setting → Waiting
waiting_for None = idle
waiting_for (Some s) = option (long_name s)

abbrev HoldsFor : Command → Option Setting → List Row → Held → Type 0
HoldsFor command None rows held = Settles command rows held
HoldsFor command (Some s) rows held = held ≡ rows_and_option rows (long_name s)

pub record Stands (command : Command) (said : Said) (w : Walk) : Type 0 where
  pub rows : List Row
  -- how many file words were read
  pub k : ℕ
  pub held : Held
  pub walk : w ≡ between held (waiting_for said.awaited) (k + 1)
  pub holds : HoldsFor command said.awaited rows held
  pub options : found_so_far command k rows ≡ Some said.options
  pub files : drop k (file_words_of command) ≡ said.missing
  -- what was found comes no more
  pub once : (id : Text) → file_count id said.missing + option_count id said.left + awaited_count id said.awaited + id_count id rows ≤ 1
  pub known : (id : Text) → option_count id said.left + awaited_count id said.awaited ≤ option_count id (settings_of command)

-- both take the word
pub record Meets (command : Command) (next : Said) (w : Walk) (word : Text) : Type 0 where
  pub after : Walk
  pub turns : Turns (built_shape command) w word after
  pub stands : Stands command next after

same-name : (s : Setting) → ◌≡◌ {A = ℕ} (cond (bytes_eq (long_name s) (long_name s)) 1 0) 1
same-name s = let same : bytes_eq (long_name s) (long_name s) ≡ true = (bytes_eq-Decides (long_name s) (long_name s)).1 refl in rw same refl

same-file-name : (f : FileWord) → ◌≡◌ {A = ℕ} (cond (bytes_eq (file_word_name f) (file_word_name f)) 1 0) 1
same-file-name f = let same : bytes_eq (file_word_name f) (file_word_name f) ≡ true = (bytes_eq-Decides (file_word_name f) (file_word_name f)).1 refl in rw same refl

known_setting : (command : Command) (s : Setting) → 1 ≤ option_count (long_name s) (settings_of command) → name_count s (settings_of command) ≡ 1
known_setting command s some = let once = named_once command (long_name s) in omega (arith, once, some)

-- ---- the value of an option

value_meets : (command : Command) (s : Setting) (word : Text) (said : Said) (w : Walk) (options : Options) → said.awaited ≡ Some s → Stands command said w
    → with_setting s word said.options ≡ Some options → Meets command (record said { options = options; awaited = None }) w word
value_meets command s word said w options at stands is =
    let c = built_rules command in
    let held : stands.held ≡ rows_and_option stands.rows (long_name s) = subst (λ a. HoldsFor command a stands.rows stands.held) at stands.holds in
    let walk : w ≡ between (rows_and_option stands.rows (long_name s)) (option (long_name s)) (stands.k + 1) =
    stands.walk ∙ (λ i. between (held i) (waiting_for (at i)) (stands.k + 1)) in
    let one : awaited_count (long_name s) said.awaited ≡ 1 = ap (awaited_count (long_name s)) at ∙ same-name s in
    let once = stands.once (long_name s) in
    let known = stands.known (long_name s) in
    let none : id_count (long_name s) stands.rows ≡ 0 = omega (arith, one, once) in
    let lacks = no_row (long_name s) stands.rows none in
    let some : 1 ≤ option_count (long_name s) (settings_of command) = omega (arith, one, known) in
    let has : has_setting s (settings_of command) ≡ true = counted_any (has_name (long_name s)) (settings_of command) some in
    let by_id = option_by_id s (settings_of command) (built_files 1 (file_words_of command)) has in
    let plain = plain_word word (value_plain s word said.options options is) in
    let turn = value_turn (built_shape command) (rows_and_option stands.rows (long_name s)) (stands.k + 1) word (built_option s) (long_name s) plain by_id in
    let after : Walk = between (pushed (long_name s) word (rows_and_option stands.rows (long_name s))) idle (stands.k + 1) in
    let turns : Turns (built_shape command) (between (rows_and_option stands.rows (long_name s)) (option (long_name s)) (stands.k + 1)) word after =
    rw (value_is_last command stands.rows s word) at turn in
    record {
      after = after;
      turns = subst (λ v. Turns (built_shape command) v word after) (sym walk) turns;
      stands = record {
        rows = stands.rows ++ row (long_name s) word ∷ [];
        k = stands.k;
        held = pushed (long_name s) word (rows_and_option stands.rows (long_name s));
        walk = refl;
        holds = value_settles command stands.rows s word by_id lacks;
        options = value_found command stands.k s word stands.rows said.options options stands.options is lacks (known_setting command s some);
        files = stands.files;
        once = λ id.
            let more = one_row_more id stands.rows (long_name s) word in
            let so_far = stands.once id in
            let here : awaited_count id said.awaited ≡ cond (bytes_eq (long_name s) id) 1 0 = ap (awaited_count id) at in
            omega (arith, more, so_far, here);
        known = λ id. let so_far = stands.known id in omega (arith, so_far);
      };
    }

-- ---- an option

settles_now : (command : Command) (said : Said) (w : Walk) (stands : Stands command said w) → said.awaited ≡ None → Settles command stands.rows stands.held
settles_now command said w stands at = subst (λ a. HoldsFor command a stands.rows stands.held) at stands.holds

walk_now : (command : Command) (said : Said) (w : Walk) (stands : Stands command said w) → said.awaited ≡ None → w ≡ between stands.held idle (stands.k + 1)
walk_now command said w stands at = stands.walk ∙ (λ i. between stands.held (waiting_for (at i)) (stands.k + 1))

-- what is known of an option that may still come
record MayCome (command : Command) (rows : List Row) (s : Setting) : Type 0 where
  lacks : has_row (long_name s) rows ≡ false
  some : 1 ≤ option_count (long_name s) (settings_of command)
  has : has_setting s (settings_of command) ≡ true

may_come : (command : Command) (said : Said) (w : Walk) (stands : Stands command said w) (place : ℕ) (s : Setting) → slice_get said.left place ≡ Some s
    → MayCome command stands.rows s
may_come command said w stands place s at =
    let removed = one-removed (has_name (long_name s)) said.left place s at in
    let one = same-name s in
    let once = stands.once (long_name s) in
    let known = stands.known (long_name s) in
    let none : id_count (long_name s) stands.rows ≡ 0 = omega (arith, removed, one, once) in
    let some : 1 ≤ option_count (long_name s) (settings_of command) = omega (arith, removed, one, known) in
    record {
      lacks = no_row (long_name s) stands.rows none;
      some = some;
      has = counted_any (has_name (long_name s)) (settings_of command) some;
    }

named_meets : (command : Command) (place : ℕ) (s : Setting) (word : Text) (said : Said) (w : Walk) → said.awaited ≡ None → Stands command said w
    → slice_get said.left place ≡ Some s → cut_at 61 word ≡ (setting_name s, None)
    → Meets command (record said { left = remove said.left place; awaited = Some s }) w word
named_meets command place s word said w none stands at cut =
    let c = built_rules command in
    let holds = settles_now command said w stands none in
    let walk = walk_now command said w stands none in
    let may = may_come command said w stands place s at in
    let by_long = option_by_long s (settings_of command) (built_files 1 (file_words_of command)) may.has in
    let turn = named_turn (built_shape command) stands.held (stands.k + 1) word (built_option s) (long_name s) (long_word s word None cut) by_long refl holds.passes in
    let after : Walk = between (record (settled c stands.held) { pending = Some (long_name s, []) }) (option (long_name s)) (stands.k + 1) in
    record {
      after = after;
      turns = subst (λ v. Turns (built_shape command) v word after) (sym walk) turn;
      stands = record {
        rows = stands.rows;
        k = stands.k;
        held = record (settled c stands.held) { pending = Some (long_name s, []) };
        walk = refl;
        holds = named_held command stands.rows s stands.held holds;
        options = stands.options;
        files = stands.files;
        once = λ id.
            let removed = one-removed (has_name id) said.left place s at in
            let so_far = stands.once id in
            omega (arith, removed, so_far);
        known = λ id.
            let removed = one-removed (has_name id) said.left place s at in
            let so_far = stands.known id in
            omega (arith, removed, so_far);
      };
    }

given_meets : (command : Command) (place : ℕ) (s : Setting) (word value : Text) (said : Said) (w : Walk) (options : Options) → said.awaited ≡ None → Stands command said w
    → slice_get said.left place ≡ Some s → cut_at 61 word ≡ (setting_name s, Some value) → with_setting s value said.options ≡ Some options
    → Meets command (record said { options = options; left = remove said.left place; awaited = None }) w word
given_meets command place s word value said w options none stands at cut is =
    let c = built_rules command in
    let holds = settles_now command said w stands none in
    let walk = walk_now command said w stands none in
    let may = may_come command said w stands place s at in
    let by_long = option_by_long s (settings_of command) (built_files 1 (file_words_of command)) may.has in
    let passes = given_passes command stands.rows s value stands.held holds may.lacks in
    let turn = given_turn (built_shape command) stands.held (stands.k + 1) word (built_option s) (long_name s) value (long_word s word (Some value) cut) by_long refl passes in
    let after : Walk = between (reacted c (built_option s) (value ∷ []) stands.held) idle (stands.k + 1) in
    record {
      after = after;
      turns = subst (λ v. Turns (built_shape command) v word after) (sym walk) turn;
      stands = record {
        rows = stands.rows ++ row (long_name s) value ∷ [];
        k = stands.k;
        held = reacted c (built_option s) (value ∷ []) stands.held;
        walk = refl;
        holds = settles_at_once command (stands.rows ++ row (long_name s) value ∷ []) (reacted c (built_option s) (value ∷ []) stands.held)
            (given_held command stands.rows s value stands.held holds may.lacks);
        options = value_found command stands.k s value stands.rows said.options options stands.options is may.lacks (known_setting command s may.some);
        files = stands.files;
        once = λ id.
            let removed = one-removed (has_name id) said.left place s at in
            let more = one_row_more id stands.rows (long_name s) value in
            let so_far = stands.once id in
            omega (arith, removed, more, so_far);
        known = λ id.
            let removed = one-removed (has_name id) said.left place s at in
            let so_far = stands.known id in
            omega (arith, removed, so_far);
      };
    }

-- ---- a file word

drop-first : {X : Type 0} (xs rest : List X) (k : ℕ) (x : X) → drop k xs ≡ x ∷ rest → (slice_get xs k ≡ Some x) × (drop (suc k) xs ≡ rest)
drop-first [] rest zero x e = cc
drop-first [] rest (suc k) x e = cc
drop-first (y ∷ xs) rest zero x e =
    let same : y ≡ x = cc in
    let others : xs ≡ rest = cc in
    (ap (λ z. Some z) same, others)
drop-first (y ∷ xs) rest (suc k) x e = drop-first xs rest k x e

file_meets : (command : Command) (f : FileWord) (files : List FileWord) (word : Text) (said : Said) (w : Walk) (options : Options) → said.awaited ≡ None → Stands command said w
    → said.missing ≡ f ∷ files → (slice_index word 0 == 45) ≡ false → with_file_word f word said.options ≡ Some options
    → Meets command (record said { options = options; missing = files }) w word
file_meets command f files word said w options none stands first plain is =
    let c = built_rules command in
    let holds = settles_now command said w stands none in
    let walk = walk_now command said w stands none in
    let at = drop-first (file_words_of command) files stands.k f (stands.files ∙ first) in
    let rule = file_rule_at command stands.k f at.0 in
    let early : stands.k ≤ 2 = rule.early in
    let counted : file_count (file_word_name f) said.missing ≡ cond (bytes_eq (file_word_name f) (file_word_name f)) 1 0 + file_count (file_word_name f) files =
    ap (file_count (file_word_name f)) first ∙ sum_by-cons (λ y. cond (bytes_eq (file_word_name y) (file_word_name f)) 1 0) f files in
    let one = same-file-name f in
    let once = stands.once (file_word_name f) in
    let no_rows : id_count (file_word_name f) stands.rows ≡ 0 = omega (arith, counted, one, once) in
    let lacks = no_row (file_word_name f) stands.rows no_rows in
    let next : min (stands.k + 1 + 1) usize_max ≡ suc stands.k + 1 = omega arith in
    let placed = placed_held command stands.rows (stands.k + 1) f word stands.held holds in
    let turn = placed_turn (built_shape command) stands.held (stands.k + 1) word (built_file (stands.k + 1) f) (plain_word word plain) rule.by_index refl refl
    (placed_passes command stands.rows (stands.k + 1) f stands.held holds) in
    let after : Walk = between (pushed (file_word_name f) word (only_rows stands.rows)) idle (suc stands.k + 1) in
    let turns : Turns (built_shape command) (between stands.held idle (stands.k + 1)) word after =
    subst (λ v. Turns (built_shape command) (between stands.held idle (stands.k + 1)) word v) (λ i. between (placed i) idle (next i)) turn in
    record {
      after = after;
      turns = subst (λ v. Turns (built_shape command) v word after) (sym walk) turns;
      stands = record {
        rows = stands.rows ++ row (file_word_name f) word ∷ [];
        k = suc stands.k;
        held = pushed (file_word_name f) word (only_rows stands.rows);
        walk = ap (λ a. between (pushed (file_word_name f) word (only_rows stands.rows)) (waiting_for a) (suc stands.k + 1)) (sym none);
        holds = subst (λ a. HoldsFor command a (stands.rows ++ row (file_word_name f) word ∷ []) (pushed (file_word_name f) word (only_rows stands.rows))) (sym none)
            (file_settles command stands.rows stands.k f word rule lacks);
        options = file_found command stands.k f word stands.rows said.options options stands.options is lacks at.0;
        files = at.1;
        once = λ id.
            let here : file_count id said.missing ≡ cond (bytes_eq (file_word_name f) id) 1 0 + file_count id files =
            ap (file_count id) first ∙ sum_by-cons (λ y. cond (bytes_eq (file_word_name y) id) 1 0) f files in
            let more = one_row_more id stands.rows (file_word_name f) word in
            let so_far = stands.once id in
            omega (arith, here, more, so_far);
        known = stands.known;
      };
    }

-- ---- any word

found-get : {X : Type 0} (xs : List X) (i : ℕ) (x : X) → slice_get xs i ≡ Some x → get_or xs i x ≡ x
found-get [] i x e = cc
found-get (y ∷ xs) zero x e = cc
found-get (y ∷ xs) (suc i) x e = found-get xs i x e

value_read : (command : Command) (s : Setting) (word : Text) (said next : Said) (w : Walk) → said.awaited ≡ Some s → Stands command said w
    → read_value s word said ≡ Some next → Meets command next w word
value_read command s word said next w at stands e = by (with_setting s word said.options) refl e
  where
    by : (o : Option Options) → with_setting s word said.options ≡ o
        → option_map (λ options. record said { options = options; awaited = None }) o ≡ Some next → Meets command next w word
    by None is f = cc
    by (Some options) is f =
        let after : Said = record said { options = options; awaited = None } in
        let same : after ≡ next = cc in
        subst (λ v. Meets command v w word) same (value_meets command s word said w options at stands is)

named_read : (command : Command) (place : ℕ) (s : Setting) (word : Text) (value : Option Text) (said next : Said) (w : Walk) → said.awaited ≡ None → Stands command said w
    → slice_get said.left place ≡ Some s → cut_at 61 word ≡ (setting_name s, value)
    → read_named value s (record said { left = remove said.left place }) ≡ Some next → Meets command next w word
named_read command place s word None said next w none stands at cut e =
    let after : Said = record said { left = remove said.left place; awaited = Some s } in
    let same : after ≡ next = cc in
    subst (λ v. Meets command v w word) same (named_meets command place s word said w none stands at cut)
named_read command place s word (Some value) said next w none stands at cut e = by (with_setting s value said.options) refl e
  where
    by : (o : Option Options) → with_setting s value said.options ≡ o
        → option_map (λ options. record said { options = options; left = remove said.left place; awaited = None }) o ≡ Some next → Meets command next w word
    by None is f = cc
    by (Some options) is f =
        let after : Said = record said { options = options; left = remove said.left place; awaited = None } in
        let same : after ≡ next = cc in
        subst (λ v. Meets command v w word) same (given_meets command place s word value said w options none stands at cut is)

option_read : (command : Command) (word : Text) (said next : Said) (w : Walk) → said.awaited ≡ None → Stands command said w
    → read_option word said ≡ Some next → Meets command next w word
option_read command word said next w none stands e = by (place_of (cut_at 61 word).0 said.left) refl e
  where
    at : (place : ℕ) → place_of (cut_at 61 word).0 said.left ≡ Some place → (o : Option Setting) → slice_get said.left place ≡ o
        → option_and_then (λ s. read_named (cut_at 61 word).1 s (record said { left = remove said.left place })) o ≡ Some next → Meets command next w word
    at place found None is f = cc
    at place found (Some s) is f =
        let first = position-Some (λ setting. bytes_eq (setting_name setting) (cut_at 61 word).0) said.left place s found in
        let here : bytes_eq (setting_name s) (cut_at 61 word).0 ≡ true = subst (λ x. bytes_eq (setting_name x) (cut_at 61 word).0 ≡ true) (found-get said.left place s is) first.1 in
        let name : setting_name s ≡ (cut_at 61 word).0 = (bytes_eq-Decides (setting_name s) (cut_at 61 word).0).0 here in
        let cut : cut_at 61 word ≡ (setting_name s, (cut_at 61 word).1) = ap (λ t. (t, (cut_at 61 word).1)) (sym name) in
        named_read command place s word (cut_at 61 word).1 said next w none stands is cut f

    by : (o : Option ℕ) → place_of (cut_at 61 word).0 said.left ≡ o → option_and_then (read_at (cut_at 61 word).1 said) o ≡ Some next → Meets command next w word
    by None is f = cc
    by (Some place) is f = at place is (slice_get said.left place) refl f

file_read : (command : Command) (missing : List FileWord) (word : Text) (said next : Said) (w : Walk) → said.awaited ≡ None → Stands command said w
    → said.missing ≡ missing → (slice_index word 0 == 45) ≡ false → read_file_as missing word said ≡ Some next → Meets command next w word
file_read command [] word said next w none stands m plain e = cc
file_read command (f ∷ files) word said next w none stands m plain e = by (with_file_word f word said.options) refl e
  where
    by : (o : Option Options) → with_file_word f word said.options ≡ o
        → option_map (λ options. record said { options = options; missing = files }) o ≡ Some next → Meets command next w word
    by None is g = cc
    by (Some options) is g =
        let after : Said = record said { options = options; missing = files } in
        let same : after ≡ next = cc in
        subst (λ v. Meets command v w word) same (file_meets command f files word said w options none stands m plain is)

word_meets : (command : Command) (awaited : Option Setting) (word : Text) (said next : Said) (w : Walk) → said.awaited ≡ awaited → Stands command said w
    → read_by awaited word said ≡ Some next → Meets command next w word
word_meets command (Some s) word said next w at stands e = value_read command s word said next w at stands e
word_meets command None word said next w at stands e = by (slice_index word 0 == 45) refl e
  where
    by : (b : Bool) → (slice_index word 0 == 45) ≡ b → cond b (read_option word said) (read_file word said) ≡ Some next → Meets command next w word
    by true is f = option_read command word said next w at stands f
    by false is f = file_read command said.missing word said next w at stands refl is f

-- ---- all words

-- where the walk ends, what was found says these options
pub record Ends (command : Command) (options : Options) (w : Walk) : Type 0 where
  pub rows : List Row
  pub settles : Settles command rows w.held
  pub says : options_found command rows ≡ Some options

pub record Goes (command : Command) (options : Options) (w : Walk) (words : List Text) : Type 0 where
  pub passes : walk_passes (built_shape command) [] w words ≡ true
  pub ends : Ends command options (fold (walked (built_rules command) []) w words)

take-all : {X : Type 0} (xs : List X) (k : ℕ) → drop k xs ≡ [] → take k xs ≡ xs
take-all [] zero e = refl
take-all [] (suc k) e = refl
take-all (x ∷ xs) zero e = cc
take-all (x ∷ xs) (suc k) e = ap (λ rest. x ∷ rest) (take-all xs k e)

finished_ends : (command : Command) (awaited : Option Setting) (missing : List FileWord) (place : ℕ) (said : Said) (w : Walk) (options : Options)
    → said.awaited ≡ awaited → said.missing ≡ missing → Stands command said w
    → ok_or (finished_by awaited missing said.options) place ≡ Ok options → Ends command options w
finished_ends command (Some s) missing place said w options a m stands e = cc
finished_ends command None (f ∷ files) place said w options a m stands e = cc
finished_ends command None [] place said w options a m stands e =
    let same : said.options ≡ options = cc in
    let all = take-all (file_words_of command) stands.k (stands.files ∙ m) in
    let holds = settles_now command said w stands a in
    let held : w.held ≡ stands.held = ap (λ (v : Walk). v.held) stands.walk in
    record {
      rows = stands.rows;
      settles = subst (λ h. Settles command stands.rows h) (sym held) holds;
      says = rw all at stands.options ∙ ap (λ o. Some o) same;
    }

pub words_go : (command : Command) (words : List Text) (place : ℕ) (said : Said) (w : Walk) (options : Options) → Stands command said w
    → read_on words place said ≡ Ok options → Goes command options w words
unfolding walk_passes
words_go command [] place said w options stands e =
    record { passes = refl; ends = finished_ends command said.awaited said.missing place said w options refl refl stands e }
words_go command (word ∷ words) place said w options stands e = by (λ next after. words_go command words (place + 1) next after options) (read_word word said) refl
  where
    by : ((next : Said) (after : Walk) → Stands command next after → read_on words (place + 1) next ≡ Ok options → Goes command options after words)
        → (o : Option Said) → read_word word said ≡ o → Goes command options w (word ∷ words)
    by rest None is =
        let err = read_on-none word words place said is in
        cc
    by rest (Some next) is =
        let meets = word_meets command said.awaited word said next w refl stands is in
        let on = rest next meets.after meets.stands (sym (read_on-some word words place said next is) ∙ e) in
        let back = sym meets.turns.goes in
        record {
          passes = rw meets.turns.passes (subst (λ v. walk_passes (built_shape command) [] v words ≡ true) back on.passes);
          ends = subst (λ v. Ends command options (fold (walked (built_rules command) []) v words)) back on.ends;
        }

pub stands_at_first : (command : Command) → Stands command (at_first command) (between (only_rows []) idle 1)
stands_at_first command = record {
  rows = [];
  k = 0;
  held = only_rows [];
  walk = refl;
  holds = settles_at_once command [] (only_rows []) refl;
  options = none_found (settings_of command) (options_at_first command);
  files = refl;
  once = λ id. let once = named_once command id in omega (arith, once);
  known = λ id. omega arith;
}
  where
    none_found : (xs : List Setting) (options : Options) → with_settings_found xs [] options ≡ Some options
    none_found [] options = refl
    none_found (x ∷ xs) options = none_found xs options
