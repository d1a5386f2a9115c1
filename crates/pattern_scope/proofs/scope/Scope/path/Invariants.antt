use Rattle.std.proofs.Common.{◌≡◌, drop}
use Rattle.std.specs.Prelude.{fold}
use Rattle.pattern_scope.specs.Scope.{after_step, after_vertex}
use Rattle.pattern_scope.proofs.scope.Scope.path.Given as goal

abbrev pub invariant-loop-step : goal.invariant-loop-step
invariant-loop-step l = fold after_step (l.self, l.vertex) (drop l.step-index l.step-items) ≡ fold after_step (after_vertex l.fn.self l.path.first) l.path.steps
