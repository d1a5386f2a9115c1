use Rattle.std.proofs.Common.{◌≡◌, ℕ, ◌+◌, ◌-◌, ◌≤◌}
use Rattle.pgql_expr.specs.Reading.{more, nested}
use Rattle.pgql_expr.proofs.expr.Grammar.more.Given as goal

abbrev pub invariant-loop-op : goal.invariant-loop-op
invariant-loop-op g l = record {
  low : l.left.height ≤ l.self.most;
  goes : (n : ℕ) × (l.self.most ≤ l.left.height + n) × (more l.self.most (nested l.self.most) l.level l.at l.self.most l.fn.left l.fn.input ≡ more l.self.most (nested l.self.most) l.level l.at n l.left l.input);
}

abbrev pub decreases-loop-op : goal.decreases-loop-op
decreases-loop-op g l = l.self.most - l.left.height
