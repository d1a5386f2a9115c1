use Rattle.std.proofs.Common.{ap}
use Rattle.plan_tree.specs.Answers.{labels_of}
use Rattle.hop_kernels.specs.LabelTests.{fits}
use Rattle.hop_kernels.proofs.LabelNumbers.{all-listed}
use Rattle.hop_kernels.proofs.labels.label_tests.Goals as goal

pub loop-variable-init : goal.loop-variable-init
loop-variable-init c = λ v below label. ap (λ t. fits c.args.texts.now (labels_of c.args.query.now v) t label) (all-listed 39 v below)
