-- What some texts read as.
use Rattle.std.proofs.Common.{◌≡◌, refl, [], ◌∷◌}
use Rattle.csv.proofs.OnLiterals.{csv_on_literals}
use Rattle.csv_records.specs.Table.{records_of}

-- a mark at the front, both line ends, and an empty line
marked : records_of (0xEF ∷ 0xBB ∷ 0xBF ∷ 97 ∷ 44 ∷ 98 ∷ 13 ∷ 10 ∷ 13 ∷ 10 ∷ 10 ∷ 99 ∷ []) ≡ ((97 ∷ []) ∷ (98 ∷ []) ∷ []) ∷ ((99 ∷ []) ∷ []) ∷ []
unfolding csv_on_literals
marked = refl

-- a quote that isn't closed goes on to the end
unclosed : records_of (97 ∷ 10 ∷ 34 ∷ 98 ∷ 10 ∷ 99 ∷ []) ≡ ((97 ∷ []) ∷ []) ∷ ((98 ∷ 10 ∷ 99 ∷ []) ∷ []) ∷ []
unfolding csv_on_literals
unclosed = refl

-- no record: nothing, and line ends alone
none : records_of (10 ∷ 13 ∷ 10 ∷ []) ≡ []
unfolding csv_on_literals
none = refl

-- a comma alone is a record of two empty fields; a quoted nothing is a record of one
comma : records_of (44 ∷ 10 ∷ 34 ∷ 34 ∷ 10 ∷ []) ≡ ([] ∷ [] ∷ []) ∷ ([] ∷ []) ∷ []
unfolding csv_on_literals
comma = refl

-- a lone carriage return ends a record; a space and a quote inside a field are bytes; bytes after a closing quote join
odd : records_of (97 ∷ 13 ∷ 32 ∷ 98 ∷ 34 ∷ 99 ∷ 44 ∷ 34 ∷ 100 ∷ 34 ∷ 101 ∷ []) ≡ ((97 ∷ []) ∷ []) ∷ ((32 ∷ 98 ∷ 34 ∷ 99 ∷ []) ∷ (100 ∷ 101 ∷ []) ∷ []) ∷ []
unfolding csv_on_literals
odd = refl
