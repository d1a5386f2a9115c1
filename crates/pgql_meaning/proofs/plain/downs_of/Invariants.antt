use Rattle.std.proofs.Common.{◌≡◌, ◌++◌, drop, map}
use Rattle.pgql_meaning.proofs.plain.downs_of.Given as goal

-- what is left, after the directions so far, gives all of them
abbrev pub invariant-loop-key : goal.invariant-loop-key
invariant-loop-key l = l.downs.items ++ map (λ key. key.1) (drop l.key-index l.keys) ≡ map (λ key. key.1) l.keys
