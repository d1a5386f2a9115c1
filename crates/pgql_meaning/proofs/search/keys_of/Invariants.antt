use Rattle.std.proofs.Common.{◌≡◌, ◌++◌, drop, map}
use Rattle.typed_query.specs.Val.{val}
use Rattle.pgql_meaning.proofs.search.keys_of.Given as goal

-- what is left, after the values so far, gives all of them
abbrev pub invariant-loop-key : goal.invariant-loop-key
invariant-loop-key l =
    l.found.items ++ map (λ key. val l.texts l.values key.0) (drop l.key-index l.keys) ≡ map (λ key. val l.texts l.values key.0) l.keys
