use Rattle.std.proofs.Common.{◌≡◌, ◌++◌, drop, map}
use Rattle.pgql_meaning.specs.Captured.{captured_value}
use Rattle.pgql_meaning.proofs.captured.capture.Given as goal

-- what is left, after the values so far, gives all of them
abbrev pub invariant-loop-capture : goal.invariant-loop-capture
invariant-loop-capture l =
    l.values.items ++ map (captured_value l.graph l.query l.numbers) (drop l.capture-index l.captures) ≡ map (captured_value l.graph l.query l.numbers) l.captures
