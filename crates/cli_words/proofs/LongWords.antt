-- What `clap` sees in a word that this crate's form accepts.
use Rattle.std.proofs.Common.{◌≡◌, ◌∙◌, ◌≤◌, ◌+◌, arith, cond, refl, sym, ap, ℕ, suc, Bool, true, false, List, [], ◌∷◌, length, take, drop, Option, Some, None, nat_lt, ◌==◌}
use Rattle.std.proofs.lemmas.Bool.Decides.{nat_tests}
use Rattle.std.proofs.lemmas.List.{take_all}
use Rattle.std.specs.List.{position_or_len}
use Rattle.std.specs.Prelude.{slice_index}
use Rattle.std.specs.Str.{bytes_eq}
use Rattle.clap.specs.Lexer.{has_byte, long_of, name_and_value, short_of}
use Rattle.cli_words.specs.Line.{long_name}
use Rattle.cli_words.specs.Rows.{setting_name}
use Rattle.cli_words.specs.Values.{cut_at, cut_by}
use Rattle.cli_words.specs.declared.setting.Setting.{Setting}
use Rattle.cli_words.specs.declared.setting.Setting.TheVariants as setting

-- ---- the cut at the first `=`

cut-more : (x k n : ℕ) (xs : List ℕ) (b : Bool) → nat_lt k n ≡ b
    → cut_by (x ∷ xs) (cond (nat_lt (1 + k) (suc n)) (Some (1 + k)) None)
    ≡ (x ∷ (cut_by xs (cond (nat_lt k n) (Some k) None)).0, (cut_by xs (cond (nat_lt k n) (Some k) None)).1)
cut-more x k n xs true is =
    let more : nat_lt (1 + k) (suc n) ≡ true = grind (arith, nat_tests) in
    let one : 1 + k ≡ suc k = omega arith in
    let next : suc k + 1 ≡ suc (k + 1) = omega arith in
    rw (more, is, one, next) refl
cut-more x k n xs false is =
    let more : nat_lt (1 + k) (suc n) ≡ false = grind (arith, nat_tests) in
    rw (more, is) refl

cut-cons : (x : ℕ) (xs : List ℕ) → (x == 61) ≡ false → cut_at 61 (x ∷ xs) ≡ (x ∷ (cut_at 61 xs).0, (cut_at 61 xs).1)
cut-cons x xs e = rw e (cut-more x (position_or_len (λ b. b == 61) xs) (length xs) xs _ refl)

cut-here : (x : ℕ) (xs : List ℕ) → (x == 61) ≡ true → (cut_at 61 (x ∷ xs)).0 ≡ []
cut-here x xs e = let some : nat_lt 0 (suc (length xs)) ≡ true = grind (arith, nat_tests) in rw (e, some) refl

-- what stands before the first `=` begins as the text does
peel : (c : ℕ) (rest word : List ℕ) → (cut_at 61 word).0 ≡ c ∷ rest
    → (xs : List ℕ) × (word ≡ c ∷ xs) × ((cut_at 61 xs).0 ≡ rest) × ((cut_at 61 xs).1 ≡ (cut_at 61 word).1)
peel c rest [] e = cc
peel c rest (x ∷ xs) e = by (x == 61) refl
  where
    by : (b : Bool) → (x == 61) ≡ b
        → (ys : List ℕ) × (x ∷ xs ≡ c ∷ ys) × ((cut_at 61 ys).0 ≡ rest) × ((cut_at 61 ys).1 ≡ (cut_at 61 (x ∷ xs)).1)
    by true is =
        let none : [] ≡ c ∷ rest = sym (cut-here x xs is) ∙ e in
        cc
    by false is =
        let cut = cut-cons x xs is in
        let first : x ∷ (cut_at 61 xs).0 ≡ c ∷ rest = sym (ap (λ (parts : List ℕ × Option (List ℕ)). parts.0) cut) ∙ e in
        let same : x ≡ c = cc in
        let others : (cut_at 61 xs).0 ≡ rest = cc in
        (xs, ap (λ n. n ∷ xs) same, others, sym (ap (λ (parts : List ℕ × Option (List ℕ)). parts.1) cut))

-- it is the cut that `clap` makes
cut-has : (text : List ℕ) → has_byte 61 text ≡ nat_lt (position_or_len (λ b. b == 61) text) (length text)
cut-has [] = refl
cut-has (x ∷ xs) = by (cut-has xs) (x == 61) refl
  where
    by : has_byte 61 xs ≡ nat_lt (position_or_len (λ b. b == 61) xs) (length xs) → (b : Bool) → (x == 61) ≡ b
        → has_byte 61 (x ∷ xs) ≡ nat_lt (position_or_len (λ b. b == 61) (x ∷ xs)) (length (x ∷ xs))
    by more true is = rw is (grind (arith, nat_tests))
    by more false is =
        let step : (k n : ℕ) → nat_lt k n ≡ nat_lt (1 + k) (suc n) = λ k n. grind (arith, nat_tests) in
        rw is (more ∙ step (position_or_len (λ b. b == 61) xs) (length xs))

same-cut : (text : List ℕ) → name_and_value text ≡ cut_at 61 text
same-cut text = by (position_or_len (λ b. b == 61) text) (nat_lt (position_or_len (λ b. b == 61) text) (length text)) refl (cut-has text)
  where
    by : (k : ℕ) (b : Bool) → nat_lt k (length text) ≡ b → has_byte 61 text ≡ nat_lt k (length text)
        → (take k text, cond (has_byte 61 text) (Some (drop (k + 1) text)) None) ≡ cut_by text (cond (nat_lt k (length text)) (Some k) None)
    by k true is has = rw (has, is) refl
    by k false is has =
        let past : length text ≤ k = grind (arith, nat_tests) in
        rw (has, is, take_all k text past) refl

-- ---- options

-- an option's name is two hyphens and then its long name
name-of : (s : Setting) → setting_name s ≡ 45 ∷ 45 ∷ long_name s
name-of setting.Machines = refl
name-of s = refl

abbrev first_letter : Setting → ℕ
first_letter s = slice_index (long_name s) 0

long-of : (s : Setting) → long_name s ≡ first_letter s ∷ drop 1 (long_name s)
long-of setting.Machines = refl
long-of s = refl

-- what `clap` makes of a word that is an option, with its value or without
pub record IsLongWord (word name : List ℕ) (value : Option (List ℕ)) : Type 0 where
  pub parts : long_of word ≡ Some (name, value)
  pub no_end : bytes_eq word (45 ∷ 45 ∷ []) ≡ false

pub long_word : (s : Setting) (word : List ℕ) (value : Option (List ℕ)) → cut_at 61 word ≡ (setting_name s, value) → IsLongWord word (long_name s) value
long_word s word value e =
    let first = peel 45 (45 ∷ long_name s) word (ap (λ (parts : List ℕ × Option (List ℕ)). parts.0) e ∙ name-of s) in
    let second = peel 45 (long_name s) first.0 first.2 in
    let third = peel (first_letter s) (drop 1 (long_name s)) second.0 (second.2 ∙ long-of s) in
    let is : word ≡ 45 ∷ 45 ∷ first_letter s ∷ third.0 = cc in
    let value_is : (cut_at 61 second.0).1 ≡ value = second.3 ∙ (first.3 ∙ ap (λ (parts : List ℕ × Option (List ℕ)). parts.1) e) in
    let cut : cut_at 61 second.0 ≡ (long_name s, value) = λ i. (second.2 i, value_is i) in
    let rest : second.0 ≡ first_letter s ∷ third.0 = third.1 in
    let named : name_and_value (first_letter s ∷ third.0) ≡ (long_name s, value) = ap name_and_value (sym rest) ∙ (same-cut second.0 ∙ cut) in
    record {
      parts = rw is (ap Some named);
      no_end = rw is refl;
    }

-- ---- other words

-- what `clap` makes of a word that does not begin with a hyphen
pub record IsPlainWord (word : List ℕ) : Type 0 where
  pub no_long : long_of word ≡ None
  pub no_short : short_of word ≡ None
  pub no_end : bytes_eq word (45 ∷ 45 ∷ []) ≡ false

pub plain_word : (word : List ℕ) → (slice_index word 0 == 45) ≡ false → IsPlainWord word
plain_word [] e = record { no_long = refl; no_short = refl; no_end = refl }
plain_word (x ∷ xs) e = record { no_long = rw e refl; no_short = rw e refl; no_end = rw e refl }
