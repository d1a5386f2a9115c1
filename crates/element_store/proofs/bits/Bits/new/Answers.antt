use Rattle.std.proofs.Common.{refl}
use Rattle.element_store.specs.Bits.{flags}
use Rattle.element_store.proofs.bits.Bits.new.Goals as goal

pub returns : goal.returns
unfolding flags
returns c = refl
