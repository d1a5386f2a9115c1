-- The files of a store, and what a load of one of them reads.
use Rattle.std.specs.Prelude.{◌≡◌, ℕ, ◌+◌, List, [], ◌∷◌, take, Option, Some, None, IfSome, IsSomeAnd, MatchOption, if◌then◌else◌}
use Rattle.std.specs.Str.{bytes_eq}
use Rattle.adfs_base.specs.Counts.{Rose}

-- names and bytes; the first of a name counts
abbrev pub Files : Type 0
Files = List (List ℕ × List ℕ)

-- the bytes of the file of that name
abbrev pub file_of : List ℕ → Files → Option (List ℕ)
file_of name [] = None
file_of name (file ∷ files) = if bytes_eq file.0 name then Some file.1 else file_of name files

-- Told files have the name, and these are the first bytes of its file: most + 1 of them, or all.
abbrev pub Reads : Option Files → List ℕ → ℕ → List ℕ → Type 0
Reads files name most bytes = IfSome files (λ told. IsSomeAnd (file_of name told) (λ file. bytes ≡ take (most + 1) file))

-- Told files lack the name; or the files aren't told, and the count of misses rose.
abbrev pub Lacks : Option Files → List ℕ → ℕ → ℕ → Type 0
Lacks files name before now = MatchOption files (Rose before now) (λ told. file_of name told ≡ None)
