-- Names are text, and the tables of lines.
use Rattle.std.proofs.Common.{◌≡◌, ◌∙◌, sym, ℕ, ◌<◌, ◌+◌, Bool, true, false, ◌&&◌, ◌||◌, List, [], ◌∷◌, zero, suc, nat_eq, refl, arith, Result, Ok, slice_index}
use Rattle.std.proofs.lemmas.Bool.Decides.{nat_tests}
use Rattle.std.specs.Char.{is_ascii_alphabetic}
use Rattle.std.specs.List.{list_all}
use Rattle.std.specs.Str.Lines.{lines}
use Rattle.std.specs.Str.{IsAscii, is_utf8}
use Rattle.std.proofs.lemmas.Str.{IsUtf8-from_ascii, is_utf8-from_IsUtf8}
use Rattle.graph_tables.specs.Faults.{◌>>=◌, GivesFault}
use Rattle.graph_tables.specs.Manifest.{tables_of_lines, with_line}
use Rattle.graph_tables.specs.Names.{is_name, is_name_byte}
use Rattle.graph_tables.specs.declared.faults.TableFault.{TableFault}
use Rattle.graph_tables.specs.declared.manifest.TableLine.{TableLine}
use Rattle.graph_tables.proofs.FaultFacts.{later_failed}

small_byte : (b : ℕ) → is_name_byte b ≡ true → b < 128
small_byte b h = grind (arith, nat_tests)

small_bytes : (bs : List ℕ) → list_all is_name_byte bs ≡ true → IsAscii bs
small_bytes [] h = λ i. omega arith
small_bytes (b ∷ bs) h = by (is_name_byte b) refl h (small_bytes bs)
  where
    at : (i : ℕ) → b < 128 → IsAscii bs → slice_index (b ∷ bs) i < 128
    at zero less all = less
    at (suc i) less all = all i

    by : (t : Bool) → is_name_byte b ≡ t → (t && list_all is_name_byte bs) ≡ true → (list_all is_name_byte bs ≡ true → IsAscii bs) → IsAscii (b ∷ bs)
    by true e rest more = λ i. at i (small_byte b e) (more rest)
    by false e rest more = cc rest

letter_is_byte : (b : ℕ) → (is_ascii_alphabetic b || (nat_eq b 95)) ≡ true → is_name_byte b ≡ true
letter_is_byte b h = grind (arith, nat_tests)

pub name_is_text : (bs : List ℕ) → is_name bs ≡ true → is_utf8 bs ≡ true
name_is_text [] h = cc h
name_is_text (b ∷ bs) h = by (is_ascii_alphabetic b || (nat_eq b 95)) refl h
  where
    by : (t : Bool) → (is_ascii_alphabetic b || (nat_eq b 95)) ≡ t → (t && list_all is_name_byte bs) ≡ true → is_utf8 (b ∷ bs) ≡ true
    by true e rest = is_utf8-from_IsUtf8 (b ∷ bs) (IsUtf8-from_ascii (b ∷ bs) (small_bytes (b ∷ bs) (rw (letter_is_byte b e) rest)))
    by false e rest = cc rest

-- one line of many
module _ (n : ℕ) (lines rest : List (List ℕ)) (line : List ℕ) (tables : List TableLine) (start : Result (List TableLine) TableFault)
    (took : lines ≡ line ∷ rest) (was : tables_of_lines n lines tables ≡ start) where
  lines_begun : (with_line n tables line >>= tables_of_lines (n + 1) rest) ≡ start
  unfolding tables_of_lines
  lines_begun = rw took at was

  pub lines_kept : (tables2 : List TableLine) → with_line n tables line ≡ Ok tables2 → tables_of_lines (n + 1) rest tables2 ≡ start
  lines_kept tables2 is = rw is at lines_begun

  pub lines_failed : (e : TableFault) → GivesFault e e.kind (with_line n tables line) → GivesFault e e.kind start
  lines_failed e h = later_failed e (with_line n tables line) start h (λ w. sym lines_begun ∙ rw w refl)

pub lines_done : (n : ℕ) (lines : List (List ℕ)) (tables : List TableLine) (start : Result (List TableLine) TableFault) → lines ≡ [] → tables_of_lines n lines tables ≡ start → start ≡ Ok tables
unfolding tables_of_lines
lines_done n lines tables start none was = sym was ∙ rw none refl
