use Rattle.std.proofs.Common.{◌≡◌, drop}
use Rattle.std.specs.Prelude.{fold}
use Rattle.pattern_scope.specs.Scope.{after_path}
use Rattle.pattern_scope.proofs.scope.add_paths.Given as goal

abbrev pub invariant-loop-path : goal.invariant-loop-path
invariant-loop-path l = fold after_path l.scope (drop l.path-index l.paths) ≡ fold after_path l.initial.scope l.paths
