use Rattle.std.proofs.Common.{◌≡◌, None, subst}
use Rattle.std.specs.Prelude.{IsSomeAnd, MatchOption}
use Rattle.world_core.proofs.Gauges.{slot-read}
use Rattle.world_core.proofs.gauge.open_at.Goals as goal

pub returns : goal.returns
returns c =
    subst (λ slot. MatchOption c.buffer.result (slot ≡ None) (λ b. IsSomeAnd slot (λ m. m.items ≡ b.now)))
    (slot-read c.args.worker.now c.args.at c.machines-machines.result c.requires.worker c.requires.at c.machines-machines.ensures) c.buffer.ensures
