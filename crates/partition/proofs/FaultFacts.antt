-- Faults that are handed on.
use Rattle.std.proofs.Common.{◌≡◌, Result, Err}
use Rattle.partition.specs.Faults.{GivesFault}
use Rattle.partition.specs.declared.fault.PartFault.{PartFault}
use Rattle.partition.specs.declared.fault.PartFault.TheVariants as fault

-- a fault of one result is one of another that fails with it
pub carried : {X Y : Type 0} (e : PartFault) (given : Result X PartFault) (other : Result Y PartFault) → (given ≡ Err e → other ≡ Err e) → GivesFault e given → GivesFault e other
carried fault.NoMemory given other f h = tt
carried (fault.BadOwnerLine line) given other f h = f h
carried (fault.OwnerOutOfRange line) given other f h = f h
carried (fault.OwnerMissing key) given other f h = f h
