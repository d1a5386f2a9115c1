-- What is taken of the rows that `clap` finds, in the order of a command's tables, is what the words said in their own.
use Rattle.std.proofs.Common.{◌≡◌, ◌∙◌, ◌+◌, ◌++◌, ◌||◌, arith, cond, refl, sym, subst, ap, ℕ, zero, suc, Bool, true, false, List, [], ◌∷◌, take, Option, Some, None, true≢false, IfSome}
use Rattle.std.specs.List.{count_by, find, list_any}
use Rattle.std.specs.Prelude.{option_and_then, slice_get}
use Rattle.std.specs.Str.{bytes_eq}
use Rattle.std.proofs.lemmas.List.Sums.{sum_by-cons}
use Rattle.std.proofs.lemmas.Slice.Eq.{bytes_eq-Decides}
use Rattle.clap.specs.Walk.{Row, Text, first_of, has_row}
use Rattle.cli_words.specs.Defaults.{options_at_first}
use Rattle.cli_words.specs.Line.{long_name}
use Rattle.cli_words.specs.Rows.{file_word_name, file_words_of, settings_of}
use Rattle.cli_words.specs.Taken.{with_files_found, with_settings_found, with_value}
use Rattle.cli_words.specs.Values.{with_file_word, with_setting}
use Rattle.cli_words.specs.declared.command.Command.{Command}
use Rattle.cli_words.specs.declared.command.Command.TheVariants.{Run, Trace, Replay, Plan, Gen, Help}
use Rattle.cli_words.specs.declared.options.Options.{Options}
use Rattle.cli_words.specs.declared.file_word.FileWord.{FileWord}
use Rattle.cli_words.specs.declared.file_word.FileWord.TheVariants as file
use Rattle.cli_words.specs.declared.setting.Setting.{Setting}
use Rattle.cli_words.specs.declared.setting.Setting.TheVariants as setting
use Rattle.cli_words.proofs.Apart.{clash, file_swaps, settings_swap}
use Rattle.cli_words.proofs.LineRules.{has_name, one_name}
use Rattle.cli_words.proofs.RowsFound.{none_counted, row}

-- ---- the first value of an id, with one more row

module _ (name text : Text) where
  -- a value that was found stays
  first-kept : (id found : Text) (rows : List Row) → first_of id rows ≡ Some found → first_of id (rows ++ row name text ∷ []) ≡ Some found
  first-kept id found [] e = cc
  first-kept id found (r ∷ rows) e = by (bytes_eq r.id id) (λ f. first-kept id found rows f) e
    where
      by : (b : Bool) → (first_of id rows ≡ Some found → first_of id (rows ++ row name text ∷ []) ≡ Some found)
          → option_and_then (λ x. slice_get x.values 0) (cond b (Some r) (find (λ x. bytes_eq x.id id) rows)) ≡ Some found
          → option_and_then (λ x. slice_get x.values 0) (cond b (Some r) (find (λ x. bytes_eq x.id id) (rows ++ row name text ∷ []))) ≡ Some found
      by true later f = f
      by false later f = later f

  -- the row of another id changes nothing
  first-apart : (id : Text) (rows : List Row) → bytes_eq name id ≡ false → first_of id (rows ++ row name text ∷ []) ≡ first_of id rows
  first-apart id [] apart = rw apart refl
  first-apart id (r ∷ rows) apart = by (bytes_eq r.id id) (first-apart id rows apart)
    where
      by : (b : Bool) → first_of id (rows ++ row name text ∷ []) ≡ first_of id rows
          → option_and_then (λ x. slice_get x.values 0) (cond b (Some r) (find (λ x. bytes_eq x.id id) (rows ++ row name text ∷ [])))
          ≡ option_and_then (λ x. slice_get x.values 0) (cond b (Some r) (find (λ x. bytes_eq x.id id) rows))
      by true later = refl
      by false later = later

  first-new : (rows : List Row) → has_row name rows ≡ false → first_of name (rows ++ row name text ∷ []) ≡ Some text
  first-new [] lacks = let same : bytes_eq name name ≡ true = (bytes_eq-Decides name name).1 refl in rw same refl
  first-new (r ∷ rows) lacks = by (bytes_eq r.id name) (λ e. first-new rows e) lacks
    where
      by : (b : Bool) → (has_row name rows ≡ false → first_of name (rows ++ row name text ∷ []) ≡ Some text) → (b || has_row name rows) ≡ false
          → option_and_then (λ x. slice_get x.values 0) (cond b (Some r) (find (λ x. bytes_eq x.id name) (rows ++ row name text ∷ []))) ≡ Some text
      by true later e = absurd (true≢false e)
      by false later e = later e

first-none : (id : Text) (rows : List Row) → has_row id rows ≡ false → first_of id rows ≡ None
first-none id [] lacks = refl
first-none id (r ∷ rows) lacks = by (bytes_eq r.id id) (λ e. first-none id rows e) lacks
  where
    by : (b : Bool) → (has_row id rows ≡ false → first_of id rows ≡ None) → (b || has_row id rows) ≡ false
        → option_and_then (λ x. slice_get x.values 0) (cond b (Some r) (find (λ x. bytes_eq x.id id) rows)) ≡ None
    by true later e = absurd (true≢false e)
    by false later e = later e

-- ---- file words

some-chained : {X Y : Type 0} (f : X → Option Y) (o : Option X) (y : Y) → option_and_then f o ≡ Some y → (x : X) × (o ≡ Some x) × (f x ≡ Some y)
some-chained f None y e = cc
some-chained f (Some x) y e = (x, refl, e)

files-kept : (name text : Text) (files : List FileWord) (rows : List Row) (old new : Options) → with_files_found files rows old ≡ Some new
    → with_files_found files (rows ++ row name text ∷ []) old ≡ Some new
files-kept name text [] rows old new e = e
files-kept name text (f ∷ files) rows old new e =
    let outer = some-chained (with_files_found files rows) _ new e in
    let inner = some-chained (λ word. with_file_word f word old) (first_of (file_word_name f) rows) outer.0 outer.1 in
    let kept = first-kept name text (file_word_name f) inner.0 rows inner.1 in
    let next = files-kept name text files rows outer.0 new outer.2 in
    rw (kept, inner.2) next

files-more : (files : List FileWord) (f : FileWord) (word : Text) (rows : List Row) (old mid new : Options) → with_files_found files rows old ≡ Some mid
    → first_of (file_word_name f) rows ≡ Some word → with_file_word f word mid ≡ Some new → with_files_found (files ++ f ∷ []) rows old ≡ Some new
files-more [] f word rows old mid new e found is =
    let same : old ≡ mid = cc in
    rw (found, same, is) refl
files-more (g ∷ files) f word rows old mid new e found is =
    let outer = some-chained (with_files_found files rows) _ mid e in
    let next = files-more files f word rows outer.0 mid new outer.2 found is in
    rw outer.1 next

-- no file word has the name of an option
names_differ : (f : FileWord) (s : Setting) → bytes_eq (file_word_name f) (long_name s) ≡ false
names_differ file.Manifest setting.Machines = refl
names_differ file.Manifest s = refl
names_differ file.Queries setting.Machines = refl
names_differ file.Queries s = refl
names_differ file.Trace setting.Machines = refl
names_differ file.Trace s = refl
names_differ file.Seed setting.Machines = refl
names_differ file.Seed s = refl
names_differ file.Vertices setting.Machines = refl
names_differ file.Vertices s = refl
names_differ file.Edges setting.Machines = refl
names_differ file.Edges s = refl

-- ---- options

-- a row of another name changes nothing
settings-apart : (name text : Text) (xs : List Setting) (rows : List Row) (o : Options) → list_any (λ x. bytes_eq name (long_name x)) xs ≡ false
    → with_settings_found xs (rows ++ row name text ∷ []) o ≡ with_settings_found xs rows o
settings-apart name text [] rows o apart = refl
settings-apart name text (x ∷ xs) rows o apart = by (bytes_eq name (long_name x)) refl (λ next e. settings-apart name text xs rows next e) apart
  where
    on : (v : Option Options) → ((next : Options) → with_settings_found xs (rows ++ row name text ∷ []) next ≡ with_settings_found xs rows next)
        → option_and_then (with_settings_found xs (rows ++ row name text ∷ [])) v ≡ option_and_then (with_settings_found xs rows) v
    on None later = refl
    on (Some next) later = later next

    by : (b : Bool) → bytes_eq name (long_name x) ≡ b
        → ((next : Options) → list_any (λ y. bytes_eq name (long_name y)) xs ≡ false → with_settings_found xs (rows ++ row name text ∷ []) next ≡ with_settings_found xs rows next)
        → (b || list_any (λ y. bytes_eq name (long_name y)) xs) ≡ false
        → with_settings_found (x ∷ xs) (rows ++ row name text ∷ []) o ≡ with_settings_found (x ∷ xs) rows o
    by true is later e = absurd (true≢false e)
    by false is later e = rw (first-apart name text (long_name x) rows is) (on (with_value x (first_of (long_name x) rows) o) (λ next. later next e))

none-named : (f : FileWord) (xs : List Setting) → list_any (λ x. bytes_eq (file_word_name f) (long_name x)) xs ≡ false
none-named f [] = refl
none-named f (x ∷ xs) = rw (names_differ f x) (none-named f xs)

turned : (a b : Text) → bytes_eq a b ≡ false → bytes_eq b a ≡ false
turned a b e = by (bytes_eq b a) refl
  where
    by : (c : Bool) → bytes_eq b a ≡ c → c ≡ false
    by false is = refl
    by true is =
        let same : b ≡ a = (bytes_eq-Decides b a).0 is in
        let yes : bytes_eq a b ≡ true = (bytes_eq-Decides a b).1 (sym same) in
        cc

abbrev pub name_count : Setting → List Setting → ℕ
name_count s xs = count_by (has_name (long_name s)) xs

-- what may be taken before the values of these options, or after them
module _ (change : Options → Option Options) (touches : Setting → Bool)
    (swap : (x : Setting) (value : Text) (o : Options) → touches x ≡ false → option_and_then (with_setting x value) (change o) ≡ option_and_then change (with_setting x value o)) where
  swap-value : (x : Setting) (v : Option Text) (o : Options) → touches x ≡ false → option_and_then (with_value x v) (change o) ≡ option_and_then change (with_value x v o)
  swap-value x (Some value) o apart = swap x value o apart
  swap-value x None o apart = by (change o)
    where
      by : (m : Option Options) → option_and_then (with_value x None) m ≡ m
      by None = refl
      by (Some p) = refl

  past : (xs : List Setting) (rows : List Row) (o : Options) → list_any touches xs ≡ false
      → option_and_then (with_settings_found xs rows) (change o) ≡ option_and_then change (with_settings_found xs rows o)
  past [] rows o apart = by (change o)
    where
      by : (m : Option Options) → option_and_then (with_settings_found [] rows) m ≡ m
      by None = refl
      by (Some p) = refl
  past (x ∷ xs) rows o apart = by (touches x) refl (λ p e. past xs rows p e) apart
    where
      regroup : (m : Option Options)
          → option_and_then (λ p. option_and_then (with_settings_found xs rows) (with_value x (first_of (long_name x) rows) p)) m
          ≡ option_and_then (with_settings_found xs rows) (option_and_then (with_value x (first_of (long_name x) rows)) m)
      regroup None = refl
      regroup (Some p) = refl

      on : (m : Option Options) → ((p : Options) → option_and_then (with_settings_found xs rows) (change p) ≡ option_and_then change (with_settings_found xs rows p))
          → option_and_then (with_settings_found xs rows) (option_and_then change m) ≡ option_and_then change (option_and_then (with_settings_found xs rows) m)
      on None later = refl
      on (Some p) later = later p

      by : (b : Bool) → touches x ≡ b
          → ((p : Options) → list_any touches xs ≡ false → option_and_then (with_settings_found xs rows) (change p) ≡ option_and_then change (with_settings_found xs rows p))
          → (b || list_any touches xs) ≡ false
          → option_and_then (with_settings_found (x ∷ xs) rows) (change o) ≡ option_and_then change (with_settings_found (x ∷ xs) rows o)
      by true is later e = absurd (true≢false e)
      by false is later e =
          regroup (change o)
          ∙ (ap (option_and_then (with_settings_found xs rows)) (swap-value x (first_of (long_name x) rows) o is)
          ∙ on (with_value x (first_of (long_name x) rows) o) (λ p. later p e))

turned-any : (s : Setting) (xs : List Setting) → list_any (has_name (long_name s)) xs ≡ false → list_any (λ x. bytes_eq (long_name s) (long_name x)) xs ≡ false
turned-any s [] e = refl
turned-any s (x ∷ xs) e = by (has_name (long_name s) x) refl (λ f. turned-any s xs f) e
  where
    by : (b : Bool) → bytes_eq (long_name x) (long_name s) ≡ b
        → (list_any (has_name (long_name s)) xs ≡ false → list_any (λ y. bytes_eq (long_name s) (long_name y)) xs ≡ false)
        → (b || list_any (has_name (long_name s)) xs) ≡ false → list_any (λ y. bytes_eq (long_name s) (long_name y)) (x ∷ xs) ≡ false
    by true is later f = absurd (true≢false f)
    by false is later f = rw (turned (long_name x) (long_name s) is) (later f)

-- a value of an option that had none is taken as if it came last
setting-more : (s : Setting) (word : Text) (xs : List Setting) (rows : List Row) (o : Options) → has_row (long_name s) rows ≡ false → name_count s xs ≡ 1
    → with_settings_found xs (rows ++ row (long_name s) word ∷ []) o ≡ option_and_then (with_setting s word) (with_settings_found xs rows o)
setting-more s word [] rows o lacks once = cc
setting-more s word (x ∷ xs) rows o lacks once = by (has_name (long_name s) x) refl (λ p e. setting-more s word xs rows p lacks e)
  where
    sum : name_count s (x ∷ xs) ≡ cond (has_name (long_name s) x) 1 0 + name_count s xs
    sum = sum_by-cons (λ y. cond (has_name (long_name s) y) 1 0) x xs

    -- the option itself stands first
    first : name_count s xs ≡ 0 → with_settings_found (s ∷ xs) (rows ++ row (long_name s) word ∷ []) o ≡ option_and_then (with_setting s word) (with_settings_found (s ∷ xs) rows o)
    first none =
        let others : list_any (has_name (long_name s)) xs ≡ false = none_counted (has_name (long_name s)) xs none in
        rw (first-new (long_name s) word rows lacks, first-none (long_name s) rows lacks)
        (each (with_setting s word o) (λ p. settings-apart (long_name s) word xs rows p (turned-any s xs others))
        ∙ past (with_setting s word) (has_name (long_name s)) (λ y value p apart. settings_swap s y word value p apart) xs rows o others)
      where
        each : (m : Option Options) → ((p : Options) → with_settings_found xs (rows ++ row (long_name s) word ∷ []) p ≡ with_settings_found xs rows p)
            → option_and_then (with_settings_found xs (rows ++ row (long_name s) word ∷ [])) m ≡ option_and_then (with_settings_found xs rows) m
        each None same = refl
        each (Some p) same = same p

    on : (m : Option Options) → ((p : Options) → with_settings_found xs (rows ++ row (long_name s) word ∷ []) p ≡ option_and_then (with_setting s word) (with_settings_found xs rows p))
        → option_and_then (with_settings_found xs (rows ++ row (long_name s) word ∷ [])) m ≡ option_and_then (with_setting s word) (option_and_then (with_settings_found xs rows) m)
    on None later = refl
    on (Some p) later = later p

    by : (b : Bool) → has_name (long_name s) x ≡ b
        → ((p : Options) → name_count s xs ≡ 1 → with_settings_found xs (rows ++ row (long_name s) word ∷ []) p ≡ option_and_then (with_setting s word) (with_settings_found xs rows p))
        → with_settings_found (x ∷ xs) (rows ++ row (long_name s) word ∷ []) o ≡ option_and_then (with_setting s word) (with_settings_found (x ∷ xs) rows o)
    by true is later =
        let one : ◌≡◌ {A = ℕ} (cond (has_name (long_name s) x) 1 0) 1 = rw is refl in
        let none : name_count s xs ≡ 0 = omega (arith, sum, one, once) in
        subst (λ y. with_settings_found (y ∷ xs) (rows ++ row (long_name s) word ∷ []) o ≡ option_and_then (with_setting s word) (with_settings_found (y ∷ xs) rows o))
        (sym (one_name x s is)) (first none)
    by false is later =
        let none : ◌≡◌ {A = ℕ} (cond (has_name (long_name s) x) 1 0) 0 = rw is refl in
        let rest : name_count s xs ≡ 1 = omega (arith, sum, none, once) in
        rw (first-apart (long_name s) word (long_name x) rows (turned (long_name x) (long_name s) is))
        (on (with_value x (first_of (long_name x) rows) o) (λ p. later p rest))

-- ---- a command's words

-- what was found for the first k file words, and for the options
abbrev pub found_so_far : Command → ℕ → List Row → Option Options
found_so_far command k rows = option_and_then (with_settings_found (settings_of command) rows)
    (with_files_found (take k (file_words_of command)) rows (options_at_first command))

pub value_found : (command : Command) (k : ℕ) (s : Setting) (word : Text) (rows : List Row) (old new : Options)
    → found_so_far command k rows ≡ Some old → with_setting s word old ≡ Some new → has_row (long_name s) rows ≡ false
    → name_count s (settings_of command) ≡ 1 → found_so_far command k (rows ++ row (long_name s) word ∷ []) ≡ Some new
value_found command k s word rows old new so_far is lacks once =
    let files = some-chained (with_settings_found (settings_of command) rows) _ old so_far in
    let kept = files-kept (long_name s) word (take k (file_words_of command)) rows (options_at_first command) files.0 files.1 in
    let more = setting-more s word (settings_of command) rows files.0 lacks once in
    rw kept (more ∙ (ap (option_and_then (with_setting s word)) files.2 ∙ is))

no_clash : (command : Command) (k : ℕ) → IfSome (slice_get (file_words_of command) k) (λ f. list_any (clash f) (settings_of command) ≡ false)
no_clash Run zero = refl
no_clash Run (suc zero) = refl
no_clash Run (suc (suc k)) = tt
no_clash Trace zero = refl
no_clash Trace (suc zero) = refl
no_clash Trace (suc (suc k)) = tt
no_clash Replay zero = refl
no_clash Replay (suc k) = tt
no_clash Plan zero = refl
no_clash Plan (suc zero) = refl
no_clash Plan (suc (suc k)) = tt
no_clash Gen zero = refl
no_clash Gen (suc zero) = refl
no_clash Gen (suc (suc zero)) = refl
no_clash Gen (suc (suc (suc k))) = tt
no_clash Help k = tt

take-next : {X : Type 0} (xs : List X) (k : ℕ) (x : X) → slice_get xs k ≡ Some x → take (suc k) xs ≡ take k xs ++ x ∷ []
take-next [] k x e = cc
take-next (y ∷ xs) zero x e = let same : y ≡ x = cc in ap (λ z. z ∷ []) same
take-next (y ∷ xs) (suc k) x e = ap (λ rest. y ∷ rest) (take-next xs k x e)

pub file_found : (command : Command) (k : ℕ) (f : FileWord) (word : Text) (rows : List Row) (old new : Options)
    → found_so_far command k rows ≡ Some old → with_file_word f word old ≡ Some new → has_row (file_word_name f) rows ≡ false
    → slice_get (file_words_of command) k ≡ Some f → found_so_far command (suc k) (rows ++ row (file_word_name f) word ∷ []) ≡ Some new
file_found command k f word rows old new so_far is lacks at =
    let files = some-chained (with_settings_found (settings_of command) rows) _ old so_far in
    let apart : list_any (clash f) (settings_of command) ≡ false = subst (λ (o : Option FileWord). IfSome o (λ g. list_any (clash g) (settings_of command) ≡ false)) at (no_clash command k) in
    let late = past (with_file_word f word) (clash f) (λ y value p free. file_swaps f y word value p free) (settings_of command) rows files.0 apart in
    let after : option_and_then (with_settings_found (settings_of command) rows) (with_file_word f word files.0) ≡ Some new =
    late ∙ (ap (option_and_then (with_file_word f word)) files.2 ∙ is) in
    let mid = some-chained (with_settings_found (settings_of command) rows) (with_file_word f word files.0) new after in
    let kept = files-kept (file_word_name f) word (take k (file_words_of command)) rows (options_at_first command) files.0 files.1 in
    let all = files-more (take k (file_words_of command)) f word (rows ++ row (file_word_name f) word ∷ []) (options_at_first command) files.0 mid.0 kept
    (first-new (file_word_name f) word rows lacks) mid.1 in
    rw (take-next (file_words_of command) k f at, all)
    (settings-apart (file_word_name f) word (settings_of command) rows mid.0 (none-named f (settings_of command)) ∙ mid.2)
