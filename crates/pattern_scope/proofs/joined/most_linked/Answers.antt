use Rattle.std.proofs.Common.{◌≤◌, ℕ, subst, take, arith}
use Rattle.std.specs.Prelude.{All}
use Rattle.std.proofs.lemmas.List.{take_all}
use Rattle.std.proofs.lemmas.List.Elements.{All-more, All-weaker}
use Rattle.pattern_scope.proofs.joined.most_linked.Goals as goal

abbrev Both : ℕ → ℕ × ℕ → Type 0
Both most link = (link.0 ≤ most) × (link.1 ≤ most)

pub loop-left-preserved : goal.loop-left-preserved
loop-left-preserved c =
    let links = c.args.links.now in
    let so_far = All-weaker (Both c.loop-left.most) (Both c.greater-most.result) (λ link both. (omega (arith, both.0), omega (arith, both.1))) (take c.loop-left.left-index links) c.loop-left.invariant in
    All-more (Both c.greater-most.result) links c.loop-left.left-index (0, 0) (omega arith) so_far (omega arith, omega arith)

pub returns : goal.returns
returns c = subst (All (Both c.loop-left.most)) (take_all c.loop-left.left-index c.args.links.now (omega arith)) c.loop-left.invariant
