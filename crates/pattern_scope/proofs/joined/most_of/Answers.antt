use Rattle.std.proofs.Common.{◌≤◌, ℕ, subst, take, arith}
use Rattle.std.specs.Prelude.{All}
use Rattle.std.proofs.lemmas.List.{take_all}
use Rattle.std.proofs.lemmas.List.Elements.{All-more, All-weaker}
use Rattle.pattern_scope.proofs.joined.most_of.Goals as goal

abbrev UpTo : ℕ → ℕ × ℕ → Type 0
UpTo most vertex = vertex.0 ≤ most

pub loop-number-preserved : goal.loop-number-preserved
loop-number-preserved c =
    let vertices = c.args.vertices.now in
    let so_far = All-weaker (UpTo c.loop-number.most) (UpTo c.greater-most.result) (λ vertex below. omega (arith, below)) (take c.loop-number.number-index vertices) c.loop-number.invariant in
    All-more (UpTo c.greater-most.result) vertices c.loop-number.number-index (0, 0) (omega arith) so_far (omega arith)

pub returns : goal.returns
returns c = subst (All (UpTo c.loop-number.most)) (take_all c.loop-number.number-index c.args.vertices.now (omega arith)) c.loop-number.invariant
