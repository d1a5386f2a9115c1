-- Columns, and values under them.
use Rattle.std.specs.Prelude.{ℕ, ◌+◌, if◌then◌else◌, List, [], ◌∷◌, Option, Some, None, position, nat_eq}
use Rattle.std.specs.Map.{keys_of}
use Rattle.adfs_base.specs.declared.value.Kind.{Kind}
use Rattle.adfs_base.specs.declared.value.Value.{Value}
use Rattle.adfs_base.specs.declared.value.Value.TheVariants as value
use Rattle.element_store.specs.Words.{HasKind}

-- a property's number and the kind of its values
abbrev pub Column : Type 0
Column = ℕ × Kind

-- a value, under a name that the members of a model may write
abbrev pub Cell : Type 0
Cell = Value

-- the place of the column of a property
abbrev pub column_of : List Column → ℕ → Option ℕ
column_of columns property = position (nat_eq property) (keys_of columns)

-- the place and the kind of the column of a property, where the first column has place n
abbrev pub slot_from : ℕ → List Column → ℕ → Option (ℕ × Kind)
slot_from n [] property = None
slot_from n (c ∷ cs) property = if nat_eq property c.0 then Some (n, c.1) else slot_from (n + 1) cs property

abbrev pub slot_of : List Column → ℕ → Option (ℕ × Kind)
slot_of columns property = slot_from 0 columns property

-- A row has a value for each column, of the column's kind.
abbrev pub HaveKinds : List Column → List Value → Type 0
HaveKinds [] [] = Unit {0}
HaveKinds [] (v ∷ vs) = ⊥
HaveKinds (c ∷ cs) [] = ⊥
HaveKinds (c ∷ cs) (v ∷ vs) = HasKind c.1 v × HaveKinds cs vs

-- a row's values, each with its property's number
abbrev pub named : List Column → List Value → List (ℕ × Value)
named [] vs = []
named (c ∷ cs) [] = []
named (c ∷ cs) (v ∷ vs) = (c.0, v) ∷ named cs vs

-- the value of a property; null where it is absent
abbrev pub value_of : List (ℕ × Value) → ℕ → Value
value_of [] property = value.Null
value_of (v ∷ vs) property = if nat_eq property v.0 then v.1 else value_of vs property
