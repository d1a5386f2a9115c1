-- Steps that may have a fault.
use Rattle.std.specs.Prelude.{◌≡◌, Result, Ok, Err}
use Rattle.partition.specs.declared.fault.PartFault.{PartFault}
use Rattle.partition.specs.declared.fault.PartFault.TheVariants as fault

infixl 10 ◌>>=◌
abbrev pub ◌>>=◌ : {A B : Type 0} → Result A PartFault → (A → Result B PartFault) → Result B PartFault
(Ok x) >>= f = f x
(Err e) >>= f = Err e

-- The fault is the definition's, or running out of memory.
abbrev pub GivesFault : {X : Type 0} → PartFault → Result X PartFault → Type 0
GivesFault fault.NoMemory given = Unit {0}
GivesFault (fault.BadOwnerLine line) given = given ≡ Err (fault.BadOwnerLine line)
GivesFault (fault.OwnerOutOfRange line) given = given ≡ Err (fault.OwnerOutOfRange line)
GivesFault (fault.OwnerMissing key) given = given ≡ Err (fault.OwnerMissing key)

-- What a step returned, as the view shows it, is what the definition gives, unless memory ran out.
abbrev pub Gives : {X Y : Type 0} → (Y → X) → Result Y PartFault → Result X PartFault → Type 0
Gives view (Ok y) given = given ≡ Ok (view y)
Gives view (Err e) given = GivesFault e given
