use Rattle.std.proofs.Common.{◌∙◌}
use Rattle.hop_kernels.proofs.ground.Ground.is_labelled.Goals as goal

pub returns : goal.returns
returns c = c.passes_test.ensures ∙ c.args.self.now.tests_are c.args.variable c.requires c.args.label
