-- No value that an option takes begins with a hyphen.
use Rattle.std.proofs.Common.{◌≡◌, ◌+◌, ◌-◌, ◌^◌, ◌&&◌, arith, cond, refl, subst, ℕ, suc, Bool, true, false, not, List, [], ◌∷◌, length, Option, Some, None, nat_le, nat_lt, ◌==◌}
use Rattle.std.proofs.lemmas.Bool.{false≢true}
use Rattle.std.proofs.lemmas.Bool.Decides.{nat_tests}
use Rattle.std.specs.Char.{is_ascii_digit}
use Rattle.std.specs.List.{list_all, position_or_len}
use Rattle.std.specs.Prelude.{option_and_then, option_map, slice_index}
use Rattle.std.specs.Str.Parse.{digits_value}
use Rattle.adfs_base.specs.declared.part_word.PartWord.{PartWord}
use Rattle.cli_words.specs.Values.{cut_by, is_number, listed_of, number_in, number_of, part_of, with_setting, within}
use Rattle.cli_words.specs.declared.options.Options.{Options}
use Rattle.cli_words.specs.declared.setting.Setting.{Setting}
use Rattle.cli_words.specs.declared.setting.Setting.TheVariants as setting

-- the word is empty, or begins with another byte
abbrev pub IsPlain : List ℕ → Type 0
IsPlain word = (slice_index word 0 == 45) ≡ false

second : (a b : Bool) → (a && b) ≡ true → b ≡ true
second true b e = e
second false b e = absurd (false≢true e)

first : (a b : Bool) → (a && b) ≡ true → a ≡ true
first true b e = refl
first false b e = absurd (false≢true e)

digits_plain : (word : List ℕ) → list_all is_ascii_digit word ≡ true → IsPlain word
digits_plain [] e = refl
digits_plain (x ∷ xs) e = let digit : is_ascii_digit x ≡ true = first (is_ascii_digit x) (list_all is_ascii_digit xs) e in grind (arith, nat_tests)

is_number_plain : (word : List ℕ) → is_number word ≡ true → IsPlain word
is_number_plain word e = digits_plain word (second (not (length word == 0) && nat_le (length word) 20) (list_all is_ascii_digit word) e)

number_plain : (word : List ℕ) (n : ℕ) → number_of word ≡ Some n → IsPlain word
number_plain word n e = by (is_number word) refl e
  where
    by : (b : Bool) → is_number word ≡ b → cond (b && nat_lt (digits_value 10 word) (2 ^ 64)) (Some (digits_value 10 word)) None ≡ Some n → IsPlain word
    by true is f = is_number_plain word is
    by false is f = cc

in_plain : (least greatest : ℕ) (word : List ℕ) (f : ℕ → Options) (options : Options) → option_map f (number_in least greatest word) ≡ Some options → IsPlain word
in_plain least greatest word f options e = by (number_of word) refl e
  where
    by : (o : Option ℕ) → number_of word ≡ o → option_map f (option_and_then (within least greatest) o) ≡ Some options → IsPlain word
    by None is g = cc
    by (Some n) is g = number_plain word n is

listed_plain : (xs : List ℕ) (k : ℕ) (b : Bool) (part : PartWord)
    → listed_of (cut_by (45 ∷ xs) (cond b (Some (1 + k)) None)).0 (cut_by (45 ∷ xs) (cond b (Some (1 + k)) None)).1 ≡ Some part → ⊥
listed_plain xs k false part e = cc
listed_plain xs k true part e =
    let one : 1 + k ≡ suc k = omega arith in
    let none : None ≡ Some part = rw one at e in
    cc

part_plain : (word : List ℕ) (part : PartWord) → part_of word ≡ Some part → IsPlain word
part_plain [] part e = refl
part_plain (x ∷ xs) part e = by (x == 45) refl
  where
    by : (b : Bool) → (x == 45) ≡ b → (x == 45) ≡ false
    by false is = is
    by true is =
        let hyphen : x ≡ 45 = grind (arith, nat_tests) in
        let bad : part_of (45 ∷ xs) ≡ Some part = subst (λ n. part_of (n ∷ xs) ≡ Some part) hyphen e in
        absurd (listed_plain xs (position_or_len (λ b. b == 58) xs) _ part bad)

pub value_plain : (asked : Setting) (word : List ℕ) (old new : Options) → with_setting asked word old ≡ Some new → IsPlain word
value_plain setting.Machines word old new e = in_plain 1 8 word (λ n. record old { machines = n }) new e
value_plain setting.Workers word old new e = in_plain 1 8 word (λ n. record old { workers = n }) new e
value_plain setting.Threads word old new e = in_plain 0 64 word (λ n. record old { threads = n }) new e
value_plain setting.Credits word old new e = in_plain 1 8 word (λ n. record old { credits = n }) new e
value_plain setting.Broad word old new e = in_plain 0 16 word (λ n. record old { broad = n }) new e
value_plain setting.Buffer word old new e = in_plain 1 64 word (λ n. record old { buffer = n }) new e
value_plain setting.Lanes word old new e = in_plain 1 8 word (λ n. record old { lanes = n }) new e
value_plain setting.Pool word old new e = in_plain 1 115200 word (λ n. record old { pool = n }) new e
value_plain setting.Schedule word old new e = in_plain 0 (2 ^ 64 - 1) word (λ n. record old { seed = n }) new e
value_plain setting.Part word old new e = by (part_of word) refl e
  where
    by : (o : Option PartWord) → part_of word ≡ o → option_map (λ part. record old { part = part }) o ≡ Some new → IsPlain word
    by None is f = cc
    by (Some part) is f = part_plain word part is
