-- The text of a reply.
use Rattle.std.specs.Prelude.{◌≡◌, ℕ, List, [], ◌∷◌, ◌++◌, length, map, codes}
use Rattle.std.specs.List.{flat_map}
use Rattle.std.specs.Fmt.{decimal}
use Rattle.adfs_base.specs.declared.value.Value.{Value}
use Rattle.typed_query.specs.declared.query.Query.{Query}
use Rattle.value_text.specs.Shown.{shown, shown_text}

-- cells with a comma between two of them
abbrev pub parted : List (List ℕ) → List ℕ
parted [] = []
parted (cell ∷ cells) = cell ++ flat_map (λ next. 44 ∷ next) cells

abbrev pub line_of : List (List ℕ) → List ℕ
line_of cells = parted cells ++ 10 ∷ []

-- a row's line
abbrev pub row_text : List (List ℕ) → List Value → List ℕ
row_text texts row = line_of (map (shown texts) row)

-- the line of the names of a query's columns
abbrev pub names_text : Query → List ℕ
names_text query = line_of (map (λ column. shown_text column.1) query.select)

-- which query it is, and how many rows there are
abbrev pub head_text : ℕ → ℕ → List ℕ
head_text number count = codes "query " ++ (decimal number ++ (codes " rows " ++ (decimal count ++ 10 ∷ [])))

-- the reply to the query of this number
abbrev pub reply_text : List (List ℕ) → ℕ → Query → List (List Value) → List ℕ
reply_text texts number query rows = head_text number (length rows) ++ (names_text query ++ flat_map (row_text texts) rows)

-- The new bytes begin with the old.
abbrev pub Grows : List ℕ → List ℕ → Type 0
Grows old new = (rest : List ℕ) × (new ≡ old ++ rest)
