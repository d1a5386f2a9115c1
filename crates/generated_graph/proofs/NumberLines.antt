-- The records of lines of numbers.
use Rattle.std.proofs.Common.{◌≡◌, ◌∙◌, sym, ap, refl, arith, ◌<◌, ◌≤◌, ◌+◌, ◌^◌, ℕ, zero, suc, false, List, [], ◌∷◌, ◌++◌, length, map, append-nil, append_assoc, length-append}
use Rattle.std.proofs.lemmas.Bool.Decides.{nat_tests}
use Rattle.std.proofs.lemmas.Fmt.{decimal_is_IsNumeral}
use Rattle.std.proofs.lemmas.Str.Parse.{digit_from_value}
use Rattle.std.specs.Char.{digit_value}
use Rattle.std.specs.Fmt.{decimal}
use Rattle.std.specs.List.{flat_map, list_any, range_with_len}
use Rattle.std.specs.Str.Parse.{AllDigits}
use Rattle.csv.specs.Machine.{next_record}
use Rattle.csv.specs.Reading.{default_config, records_from}
use Rattle.csv.specs.Writing.{default_writer, fields_text, is_blank, needs_byte, read_back, row_text}
use Rattle.csv.specs.declared.parser.State.TheVariants as st
use Rattle.csv.proofs.RoundTrip.{read-write, rows_text}

-- a digit calls for no quotes
plain_digit : (c : ℕ) → digit_value c < 10 → needs_byte default_writer c ≡ false
plain_digit c few = let is = digit_from_value c few in grind (arith, nat_tests)

plain_digits : (ds : List ℕ) → AllDigits 10 ds → list_any (needs_byte default_writer) ds ≡ false
plain_digits [] all = refl
plain_digits (c ∷ cs) all = rw (plain_digit c all.0, plain_digits cs all.1) refl

pub plain : (n : ℕ) → n < 2 ^ 64 → list_any (needs_byte default_writer) (decimal n) ≡ false
plain n few = plain_digits (decimal n) (decimal_is_IsNumeral n few).0.1

-- the line of two fields, and of three
pub line_of_two : (a b : List ℕ) → list_any (needs_byte default_writer) a ≡ false → list_any (needs_byte default_writer) b ≡ false
    → row_text default_writer (a ∷ b ∷ []) ≡ a ++ 44 ∷ b ++ 10 ∷ []
unfolding fields_text is_blank
line_of_two a b p q = rw (p, q, append-nil b) refl

pub line_of_three : (a b c : List ℕ) → list_any (needs_byte default_writer) a ≡ false → list_any (needs_byte default_writer) b ≡ false → list_any (needs_byte default_writer) c ≡ false
    → row_text default_writer (a ∷ b ∷ c ∷ []) ≡ a ++ 44 ∷ b ++ 44 ∷ c ++ 10 ∷ []
unfolding fields_text is_blank
line_of_three a b c p q r = rw (p, q, r, append-nil c) (ap (λ text. text ++ 10 ∷ []) (sym (append_assoc a (44 ∷ b) (44 ∷ c))))

module _ (row : ℕ → List (List ℕ)) (line : ℕ → List ℕ) (most : ℕ) (lines : (place : ℕ) → place < most → row_text default_writer (row place) ≡ line place) where
  -- lines one after the other are the text of their records
  pub text_of_rows : (n from : ℕ) → from + n ≤ most → flat_map line (range_with_len from n) ≡ rows_text (map row (range_with_len from n))
  unfolding rows_text
  text_of_rows zero from few = refl
  text_of_rows (suc n) from few =
      let here = lines from (omega arith) in
      let later = text_of_rows n (from + 1) (omega arith) in
      cc (here, later)

-- a record takes a byte at least
rows_are_long : (rows : List (List (List ℕ))) → length rows ≤ length (rows_text rows)
unfolding rows_text
rows_are_long [] = omega arith
rows_are_long (row ∷ rows) = omega (arith, rows_are_long rows, length-append {A = ℕ})

-- records that are written are read, whatever the number of turns, if it is enough
read_all : (n : ℕ) (rows : List (List (List ℕ))) → length rows < n → records_from default_config n st.StartRecord (rows_text rows) ≡ map read_back rows
unfolding records_from rows_text next_record
read_all zero rows few = absurd (omega arith)
read_all (suc n) [] few = refl
read_all (suc n) (row ∷ rows) few = rw (read-write row (rows_text rows)) (ap (λ records. read_back row ∷ records) (read_all n rows (omega arith)))

pub read_rows : (rows : List (List (List ℕ))) → records_from default_config (length (rows_text rows) + 1) st.StartRecord (rows_text rows) ≡ map read_back rows
read_rows rows = read_all (length (rows_text rows) + 1) rows (omega (arith, rows_are_long rows))

-- what stands in a record that has a field is read as it is
pub same_back : (row : ℕ → List (List ℕ)) → ((place : ℕ) → read_back (row place) ≡ row place) → (places : List ℕ) → map read_back (map row places) ≡ map row places
same_back row same [] = refl
same_back row same (place ∷ places) = cc (same place, same_back row same places)
