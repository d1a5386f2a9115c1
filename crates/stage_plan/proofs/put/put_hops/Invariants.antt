use Rattle.std.proofs.Common.{◌≡◌, ◌++◌, ◌+◌, ◌≤◌, length}
use Rattle.std.specs.String.{string_bytes}
use Rattle.stage_plan.specs.PlanText.{hop_lines}
use Rattle.stage_plan.proofs.put.put_hops.Given as goal

-- the lines of the hops that are left, after the text so far, are all of them
abbrev pub invariant-loop-hop : goal.invariant-loop-hop
invariant-loop-hop l = record {
  so_far : string_bytes l.text ++ hop_lines l.query l.stage l.rest ≡ string_bytes l.fn.text ++ hop_lines l.query 0 l.hops;
  left : l.stage + length l.rest ≤ length l.hops;
}

abbrev pub decreases-loop-hop : goal.decreases-loop-hop
decreases-loop-hop l = length l.rest
