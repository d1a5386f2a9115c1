-- Faults of queries, and which of several is told.
use Rattle.std.specs.Prelude.{ℕ, Bool, ◌&&◌, ◌||◌, ◌==◌, nat_lt, if◌then◌else◌, List, fold, Option, Some, None}
use Rattle.pattern_scope.specs.declared.fault.TypeFault.{TypeFault}
use Rattle.pattern_scope.specs.declared.fault.TypeFault.TheVariants as fault

abbrev pub place_of : TypeFault → ℕ
place_of (fault.UnknownName at) = at
place_of (fault.UnknownProperty at) = at
place_of (fault.KindMismatch at) = at
place_of (fault.DoubleName at) = at
place_of (fault.TooManyVariables at) = at
place_of (fault.Disconnected at) = at
place_of (fault.VariableKind at) = at
place_of (fault.KeyNotSelected at) = at
place_of (fault.BadDate at) = at
place_of fault.NoMemory = 0

-- the number under which a refusal is told
abbrev pub code_of : TypeFault → ℕ
code_of (fault.UnknownName at) = 40
code_of (fault.UnknownProperty at) = 41
code_of (fault.KindMismatch at) = 42
code_of (fault.DoubleName at) = 43
code_of (fault.TooManyVariables at) = 44
code_of (fault.Disconnected at) = 45
code_of (fault.VariableKind at) = 46
code_of (fault.KeyNotSelected at) = 48
code_of (fault.BadDate at) = 49
code_of fault.NoMemory = 0

-- of the lesser place, or at one place of the lesser number
abbrev pub comes_before : TypeFault → TypeFault → Bool
comes_before f g = nat_lt (place_of f) (place_of g) || ((place_of f == place_of g) && nat_lt (code_of f) (code_of g))

-- the first of two
abbrev pub earlier : TypeFault → TypeFault → TypeFault
earlier f g = if comes_before g f then g else f

abbrev pub earlier_of : Option TypeFault → TypeFault → Option TypeFault
earlier_of None g = Some g
earlier_of (Some f) g = Some (earlier f g)

-- the first of all
abbrev pub first_of : List TypeFault → Option TypeFault
first_of faults = fold earlier_of None faults
