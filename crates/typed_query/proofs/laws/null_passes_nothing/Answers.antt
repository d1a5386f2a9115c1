use Rattle.std.proofs.Common.{refl}
use Rattle.typed_query.proofs.laws.null_passes_nothing.Goals as goal

pub returns : goal.returns
returns c = record { stays = refl; fails = refl; turned_fails = refl }
