-- The first five lines of a trace: what the run is on.
use Rattle.std.specs.Prelude.{ℕ, ◌≡◌, ◌≤◌, ◌+◌, ◌==◌, ◌&&◌, not, nat_le, if◌then◌else◌, Bool, true, List, [], ◌∷◌, ◌++◌, length, codes, slice_get, take, drop, Option, Some, None, Result, Ok, Err, bytes_eq}
use Rattle.std.specs.List.{after_first, before_first, list_all}
use Rattle.std.specs.Option.{option_and_then, ok_or, option_map}
use Rattle.std.specs.Str.{is_utf8}
use Rattle.std.specs.Str.Lines.{lines}
use Rattle.adfs_base.specs.declared.part_word.PartWord.{PartWord}
use Rattle.adfs_base.specs.declared.part_word.PartWord.TheVariants as part
use Rattle.trace_text.specs.declared.fault.ReplayFault.{ReplayFault}
use Rattle.trace_text.specs.declared.fault.ReplayFault.TheVariants as fault
use Rattle.trace_text.specs.declared.header.Header.{Header}
use Rattle.trace_text.specs.declared.said.Sizes.{Sizes}
use Rattle.trace_text.specs.Faults.{◌>>=◌}
use Rattle.trace_text.specs.EventLines.{next_number}
use Rattle.text_lines.specs.Words.{has_space, is_space}
use Rattle.trace_text.specs.Numbers.{number_of, triple_of}

-- ---- what is written
abbrev pub part_text : PartWord → List ℕ
part_text part.Modulo = codes "modulo"
part_text part.Block = codes "block"
part_text (part.Listed file) = codes "listed:" ++ file

abbrev pub shape_text : Header → List ℕ
shape_text h = next_number h.machines ++ (next_number h.workers ++ (next_number h.credits ++ (next_number h.broad ++ next_number h.buffer)))

abbrev pub header_lines : Header → List (List ℕ)
header_lines h =
    codes "adfs-trace 1" ∷ (codes "manifest" ++ 32 ∷ h.manifest) ∷ (codes "queries" ++ 32 ∷ h.queries)
    ∷ (codes "shape" ++ shape_text h) ∷ (codes "part" ++ 32 ∷ part_text h.part) ∷ []

-- each line with its line feed
abbrev pub with_feeds : List (List ℕ) → List ℕ
with_feeds [] = []
with_feeds (line ∷ lines) = line ++ 10 ∷ with_feeds lines

-- ---- what can be a header
-- a text that may name a file: UTF-8, not empty, and without a control byte
abbrev pub is_file_text : List ℕ → Bool
is_file_text text = not (length text == 0) && (list_all (λ b. nat_le 32 b) text && is_utf8 text)

abbrev pub is_part : PartWord → Bool
is_part part.Modulo = true
is_part part.Block = true
is_part (part.Listed file) = is_file_text file

abbrev pub is_between : ℕ → ℕ → ℕ → Bool
is_between least greatest n = nat_le least n && nat_le n greatest

-- the limits of a shape
abbrev pub are_in_limits : Sizes → Bool
are_in_limits n =
    is_between 1 8 n.machines && (is_between 1 8 n.workers && (is_between 1 8 n.credits && (is_between 0 16 n.broad && is_between 1 64 n.buffer)))

abbrev pub numbers_in : Header → Sizes
numbers_in h = record { machines = h.machines; workers = h.workers; credits = h.credits; broad = h.broad; buffer = h.buffer }

pub record IsHeader (h : Header) : Type 0 where
  pub manifest : is_file_text h.manifest ≡ true
  pub queries : is_file_text h.queries ≡ true
  pub numbers : are_in_limits (numbers_in h) ≡ true
  pub part : is_part h.part ≡ true

-- ---- what is read
-- what a line says after its first word, where that is this word
abbrev pub after_word : List ℕ → List ℕ → Option (List ℕ)
after_word word line = if has_space line && bytes_eq (before_first is_space line) word then Some (after_first is_space line) else None

abbrev pub file_of : List ℕ → Option (List ℕ)
file_of text = if is_file_text text then Some text else None

abbrev pub name_on : List ℕ → List ℕ → Option (List ℕ)
name_on word line = option_and_then file_of (after_word word line)

-- the number before the first space, and what stands after that
abbrev pub first_of : List ℕ → Option (ℕ × List ℕ)
first_of text = if has_space text then option_map (λ n. (n, after_first is_space text)) (number_of (before_first is_space text)) else None

abbrev pub with_two : ℕ → ℕ → ℕ × ℕ × ℕ → Sizes
with_two machines workers n = record { machines = machines; workers = workers; credits = n.0; broad = n.1; buffer = n.2 }

-- five numbers, with a space between each two
abbrev pub numbers_of : List ℕ → Option Sizes
numbers_of text =
    option_and_then (λ m. option_and_then (λ w. option_map (with_two m.0 w.0) (triple_of w.1)) (first_of m.1)) (first_of text)

abbrev pub limited : Sizes → Option Sizes
limited n = if are_in_limits n then Some n else None

abbrev pub shape_on : List ℕ → Option Sizes
shape_on line = option_and_then limited (option_and_then numbers_of (after_word (codes "shape") line))

abbrev pub listed_of : List ℕ → Option PartWord
listed_of text =
    if bytes_eq (take 7 text) (codes "listed:") then option_map (λ file. part.Listed file) (file_of (drop 7 text)) else None

abbrev pub part_of : List ℕ → Option PartWord
part_of text = if bytes_eq text (codes "modulo") then Some part.Modulo else (if bytes_eq text (codes "block") then Some part.Block else listed_of text)

abbrev pub part_on : List ℕ → Option PartWord
part_on line = option_and_then part_of (after_word (codes "part") line)

abbrev pub version_on : List ℕ → Option (Unit {0})
version_on line = if bytes_eq line (codes "adfs-trace 1") then Some tt else None

-- The line at a place, from 0: it may be missing, or not of the form that is read there.
abbrev pub read_line : {A : Type 0} → (List ℕ → Option A) → ℕ → Option (List ℕ) → Result A ReplayFault
read_line read number None = Err fault.NotFinished
read_line read number (Some line) = ok_or (read line) (fault.BadLine number)

abbrev pub read_at : {A : Type 0} → (List ℕ → Option A) → ℕ → List (List ℕ) → Result A ReplayFault
read_at read place lines = read_line read (place + 1) (slice_get lines place)

abbrev pub header_with : List ℕ → List ℕ → Sizes → PartWord → Header
header_with manifest queries n part =
    record {
      manifest = manifest;
      queries = queries;
      machines = n.machines;
      workers = n.workers;
      credits = n.credits;
      broad = n.broad;
      buffer = n.buffer;
      part = part;
    }

-- From here on the text is the lines after so many.
pub record Follows (bytes : List ℕ) (place from : ℕ) : Type 0 where
  pub within : from ≤ length bytes
  pub lines : lines (drop from bytes) ≡ drop place (lines bytes)

-- what the first five lines say, or the first that is missing or not of its form
abbrev pub header_of : List (List ℕ) → Result Header ReplayFault
header_of lines =
    read_at version_on 0 lines >>= λ version.
    (read_at (name_on (codes "manifest")) 1 lines >>= λ manifest.
    (read_at (name_on (codes "queries")) 2 lines >>= λ queries.
    (read_at shape_on 3 lines >>= λ numbers.
    (read_at part_on 4 lines >>= λ part. Ok (header_with manifest queries numbers part)))))
