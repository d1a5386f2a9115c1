use Rattle.std.proofs.Common.{◌≡◌, ◌++◌, ◌+◌, length}
use Rattle.stage_plan.specs.Walk.{places_from}
use Rattle.stage_plan.proofs.walk.captures_of.Given as goal

-- the places among what is left, after those so far, are all of them
abbrev pub invariant-loop-capture : goal.invariant-loop-capture
invariant-loop-capture l = record {
  so_far : l.places ++ places_from l.place l.variable l.rest ≡ places_from 0 l.variable l.query.captures;
  left : l.place + length l.rest ≡ length l.query.captures;
}

abbrev pub decreases-loop-capture : goal.decreases-loop-capture
decreases-loop-capture l = length l.rest
