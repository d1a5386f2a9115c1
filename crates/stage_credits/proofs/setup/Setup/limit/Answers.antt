use Rattle.std.proofs.Common.{sym, ◌∙◌}
use Rattle.stage_credits.proofs.Decoding.{limit_at-unit_of}
use Rattle.stage_credits.proofs.setup.Setup.limit.Goals as goal

pub returns : goal.returns
returns c stage = c.limit.ensures ∙ sym (limit_at-unit_of c.args.self.now c.args.from stage c.args.to c.machines-machines.ensures.sound c.requires.from c.requires.to)
