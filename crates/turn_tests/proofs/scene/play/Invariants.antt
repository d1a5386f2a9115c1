use Rattle.turn_tests.specs.Scripts.{Plays}
use Rattle.turn_tests.proofs.scene.play.Given as goal

abbrev pub invariant-loop-part : goal.invariant-loop-part
invariant-loop-part l = record {
  plays : Plays l.fan l.worker l.script;
  can_next : (goal.iterator-loop-part).can_next l.part-iterator;
  finite : (goal.iterator-loop-part).is_finite l.part-iterator;
}
