-- What an option's value and a file word may say, and which of the options it is.
use Rattle.std.specs.Prelude.{ℕ, ◌+◌, ◌-◌, ◌*◌, ◌^◌, ◌==◌, ◌&&◌, not, nat_le, nat_lt, Bool, List, [], ◌∷◌, ◌++◌, length, take, drop, position, Option, Some, None, codes, option_and_then, if◌then◌else◌}
use Rattle.std.specs.Char.{is_ascii_digit}
use Rattle.std.specs.List.{list_all}
use Rattle.std.specs.Option.{option_map}
use Rattle.std.specs.Str.{bytes_eq}
use Rattle.std.specs.Str.Parse.{digits_value}
use Rattle.adfs_base.specs.declared.part_word.PartWord.{PartWord}
use Rattle.adfs_base.specs.declared.part_word.PartWord.TheVariants as part
use Rattle.cli_words.specs.declared.options.Options.{Options}
use Rattle.cli_words.specs.declared.file_word.FileWord.{FileWord}
use Rattle.cli_words.specs.declared.file_word.FileWord.TheVariants as file
use Rattle.cli_words.specs.declared.setting.Setting.{Setting}
use Rattle.cli_words.specs.declared.setting.Setting.TheVariants as setting

-- a text that may name a file: not empty, and without a control byte
abbrev pub is_file_text : List ℕ → Bool
is_file_text text = not (length text == 0) && list_all (λ b. nat_le 32 b) text

-- 1 to 20 decimal digits
abbrev pub is_number : List ℕ → Bool
is_number word = not (length word == 0) && nat_le (length word) 20 && list_all is_ascii_digit word

-- the number that a word says, where it fits 64 bits
abbrev pub number_of : List ℕ → Option ℕ
number_of word = if is_number word && nat_lt (digits_value 10 word) (2 ^ 64) then Some (digits_value 10 word) else None

abbrev pub within : ℕ → ℕ → ℕ → Option ℕ
within least greatest n = if nat_le least n && nat_le n greatest then Some n else None

-- the number that a word says, in its range
abbrev pub number_in : ℕ → ℕ → List ℕ → Option ℕ
number_in least greatest word = option_and_then (within least greatest) (number_of word)

abbrev pub cut_by : List ℕ → Option ℕ → List ℕ × Option (List ℕ)
cut_by word None = (word, None)
cut_by word (Some place) = (take place word, Some (drop (place + 1) word))

-- what stands before the first such byte, and what stands after it, if there is one
abbrev pub cut_at : ℕ → List ℕ → List ℕ × Option (List ℕ)
cut_at byte word = cut_by word (position (λ b. b == byte) word)

-- `listed:FILE`
abbrev pub listed_of : List ℕ → Option (List ℕ) → Option PartWord
listed_of name None = None
listed_of name (Some text) = if bytes_eq name (codes "listed") && is_file_text text then Some (part.Listed text) else None

abbrev pub listed_in : List ℕ × Option (List ℕ) → Option PartWord
listed_in parts = listed_of parts.0 parts.1

-- how the vertices are dealt out
abbrev pub part_of : List ℕ → Option PartWord
part_of word = if bytes_eq word (codes "modulo") then Some part.Modulo else (if bytes_eq word (codes "block") then Some part.Block else listed_in (cut_at 58 word))

-- the options with the option's value, where the word says one in its range
abbrev pub with_setting : Setting → List ℕ → Options → Option Options
with_setting setting.Machines word options = option_map (λ n. record options { machines = n }) (number_in 1 8 word)
with_setting setting.Workers word options = option_map (λ n. record options { workers = n }) (number_in 1 8 word)
with_setting setting.Threads word options = option_map (λ n. record options { threads = n }) (number_in 0 64 word)
with_setting setting.Credits word options = option_map (λ n. record options { credits = n }) (number_in 1 8 word)
with_setting setting.Broad word options = option_map (λ n. record options { broad = n }) (number_in 0 16 word)
with_setting setting.Buffer word options = option_map (λ n. record options { buffer = n }) (number_in 1 64 word)
with_setting setting.Part word options = option_map (λ part. record options { part = part }) (part_of word)
with_setting setting.Lanes word options = option_map (λ n. record options { lanes = n }) (number_in 1 8 word)
with_setting setting.Pool word options = option_map (λ n. record options { pool = n }) (number_in 1 115200 word)
with_setting setting.Schedule word options = option_map (λ n. record options { seed = n }) (number_in 0 (2 ^ 64 - 1) word)

abbrev pub with_file : List ℕ → Options → Option Options
with_file word options = if is_file_text word then Some (record options { files = options.files ++ word ∷ [] }) else None

-- the options with what a file word says, where it may stand there
abbrev pub with_file_word : FileWord → List ℕ → Options → Option Options
with_file_word file.Manifest word options = with_file word options
with_file_word file.Queries word options = with_file word options
with_file_word file.Trace word options = with_file word options
with_file_word file.Seed word options = option_map (λ n. record options { seed = n }) (number_in 0 (2 ^ 64 - 1) word)
with_file_word file.Vertices word options = option_map (λ n. record options { vertices = n }) (number_in 1 200000 word)
with_file_word file.Edges word options = option_map (λ n. record options { edges = n }) (number_in 0 (8 * options.vertices) word)
