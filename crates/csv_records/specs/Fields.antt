-- A record, from a place within it on.
use Rattle.std.specs.Prelude.{ℕ, ◌==◌, ◌&&◌, ◌||◌, not, nat_le, Bool, true, false, List, [], ◌∷◌, length, slice_index, Option, Some, option_map}
use Rattle.csv.specs.Machine.{Read, next_record}
use Rattle.csv.specs.Reading.{default_config}
use Rattle.csv.specs.declared.parser.State.{State}
use Rattle.csv.specs.declared.parser.State.TheVariants as st

-- the bytes begin with a byte order mark
abbrev pub has_mark : List ℕ → Bool
has_mark bytes = nat_le 3 (length bytes) && (slice_index bytes 0 == 0xEF) && (slice_index bytes 1 == 0xBB) && (slice_index bytes 2 == 0xBF)

abbrev pub ends_line : ℕ → Bool
ends_line b = (b == 13) || (b == 10)

-- a blank line is no record
abbrev pub begins_record : ℕ → Bool
begins_record b = not (ends_line b)

abbrev pub ends_field : ℕ → Bool
ends_field b = (b == 44) || ends_line b

abbrev pub is_quote : ℕ → Bool
is_quote b = b == 34

-- the text begins with a quote
abbrev pub is_quoted : List ℕ → Bool
is_quoted [] = false
is_quoted (b ∷ rest) = is_quote b

-- a field that was quoted, and after which this text stands, is over
abbrev pub is_over : List ℕ → Bool
is_over [] = true
is_over (b ∷ rest) = ends_field b

-- the end of a field, with which the text begins, has another field of the record after it
abbrev pub goes_on : List ℕ → Bool
goes_on [] = false
goes_on (b ∷ rest) = b == 44

-- the fields of a record and the text after it, from a state on, with the fields before and the bytes of the one at hand
abbrev pub record_from : State → List (List ℕ) → List ℕ → List ℕ → Option (List (List ℕ) × List ℕ)
record_from s before field text = option_map (λ (r : Read). (r.0, r.2)) (next_record default_config s before field text)

-- the same after a field, where another one follows or none
abbrev pub record_after : Bool → List (List ℕ) → List ℕ → Option (List (List ℕ) × List ℕ)
record_after true before text = record_from st.StartField before [] text
record_after false before text = Some (before, text)

-- the same inside of quotes, or after them
abbrev pub record_within : Bool → List (List ℕ) → List ℕ → List ℕ → Option (List (List ℕ) × List ℕ)
record_within true before field text = record_from st.InQuoted before field text
record_within false before field text = record_from st.InField before field text
