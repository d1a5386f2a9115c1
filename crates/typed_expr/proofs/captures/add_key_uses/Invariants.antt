use Rattle.std.proofs.Common.{◌≡◌, drop}
use Rattle.std.specs.Prelude.{fold, flat_map}
use Rattle.typed_expr.specs.Uses.{uses, with_use}
use Rattle.typed_expr.proofs.captures.add_key_uses.Given as goal

abbrev pub invariant-loop-key : goal.invariant-loop-key
invariant-loop-key l = fold with_use l.found (flat_map (λ key. uses l.environment.schema.now l.environment.variables.now key.expr) (drop l.key-index l.keys)) ≡ fold with_use l.initial.found (flat_map (λ key. uses l.environment.schema.now l.environment.variables.now key.expr) l.keys)
