-- Which variable a name stands for.
use Rattle.std.specs.Prelude.{◌≡◌, ℕ, ◌+◌, Bool, false, if◌then◌else◌, List, [], ◌∷◌, length, Option, Some, None}
use Rattle.std.specs.List.{position_or_len, slice_get}
use Rattle.std.specs.Str.{bytes_eq}
use Rattle.pattern_scope.specs.declared.scope.Declared.{Declared}

abbrev pub is_name : List ℕ → Option (List ℕ) → Bool
is_name name None = false
is_name name (Some own) = bytes_eq own name

-- among variables that are counted from a number
abbrev pub variable_from : ℕ → List Declared → List ℕ → Option (ℕ × Bool)
variable_from number [] name = None
variable_from number (variable ∷ variables) name =
    if is_name name variable.name then Some (number, variable.edge) else variable_from (number + 1) variables name

-- the number of the variable with this name, and whether it is an edge
abbrev pub variable_of : List Declared → List ℕ → Option (ℕ × Bool)
variable_of variables name = variable_from 0 variables name

-- A list of distinct names, with a variable's number for each, tells what every name stands for.
pub record IsIndexed (variables : List Declared) (names : List (List ℕ)) (first : List (ℕ × Bool)) : Type 0 where
  pub one_each : length first ≡ length names
  pub looked_up : (name : List ℕ) → variable_of variables name ≡ slice_get first (position_or_len (bytes_eq name) names)
