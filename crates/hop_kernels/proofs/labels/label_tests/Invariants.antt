use Rattle.hop_kernels.specs.LabelTests.{AreTests}
use Rattle.hop_kernels.proofs.labels.label_tests.Given as goal

abbrev pub invariant-loop-variable : goal.invariant-loop-variable
invariant-loop-variable l = AreTests l.texts l.query l.tests
