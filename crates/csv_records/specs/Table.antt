-- The records of a table's bytes.
use Rattle.std.specs.Prelude.{ℕ, List}
use Rattle.std.specs.Borrow.{Bor}
use Rattle.csv.specs.Reading.{default_config, records, strip_bom}

-- the records of a table: a comma, double quotes, no trimming, and no byte order mark
abbrev pub records_of : List ℕ → List (List (List ℕ))
records_of bytes = records default_config (strip_bom bytes)

-- those of the bytes that are left
abbrev pub records_left : Bor (List ℕ) → List (List (List ℕ))
records_left rest = records default_config rest.now
