use Rattle.std.proofs.Common.{ap, arith}
use Rattle.std.proofs.Math.Nat.{zero-div, mul-pos}
use Rattle.dfs_worker.proofs.Fresh.{fresh-fits}
use Rattle.turn_tests.specs.Fans.{fan_tree}
use Rattle.turn_tests.specs.FanLaws.{fan-lawful}
use Rattle.turn_tests.specs.Scripts.{Stand, ScriptAgrees, script_shape, script_roots}
use Rattle.turn_tests.proofs.scene.start.Goals as goal

pub returns : goal.returns
returns c =
    let shape = c.args.shape.now in
    let is = c.new-script.ensures.sound in
    let begun = c.new-script.ensures.start in
    fresh-fits ScriptAgrees script_shape script_roots (fan_tree c.args.fan.now) c.in_ok-worker.worker c.new-script.result shape 0 c.in_ok-worker.ensures is (mul-pos is.some_machine is.some_worker)
    (record { law = fan-lawful c.args.fan.now; same_stages = c.requires.stages; same_machines = c.requires.machines })
    (ap (λ (s : Stand). s.shape) begun) (λ machine low. ap (λ (s : Stand). s.roots) begun)
    (record {
      machine = rw begun (zero-div shape.workers);
      seen = rw begun (omega arith);
      looked = λ e. cc;
    })
