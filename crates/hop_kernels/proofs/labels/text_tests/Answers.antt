use Rattle.std.proofs.Common.{ap}
use Rattle.plan_tree.specs.Answers.{labels_of}
use Rattle.hop_kernels.specs.LabelTests.{fits}
use Rattle.hop_kernels.proofs.LabelNumbers.{all-listed}
use Rattle.hop_kernels.proofs.labels.text_tests.Goals as goal

pub returns : goal.returns
returns c = λ texts query v below label. ap (λ t. fits texts (labels_of query v) t label) (all-listed 39 v below)
