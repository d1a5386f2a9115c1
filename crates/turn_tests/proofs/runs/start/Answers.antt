use Rattle.std.proofs.Common.{◌≡◌, ℕ, ◌<◌, [], ◌∷◌, get_or, refl, sym, ap, ◌∙◌, subst, arith}
use Rattle.std.proofs.Math.Nat.{mul-pos}
use Rattle.fabric.specs.Plain.{PlainAgrees, plain_shape}
use Rattle.fabric.specs.Shared.{IsShared, roots_at}
use Rattle.dfs_worker.proofs.Fresh.{fresh-fits, fresh_holding}
use Rattle.turn_tests.proofs.PlainStart.{start-agrees}
use Rattle.turn_tests.specs.Fans.{fan_tree}
use Rattle.turn_tests.specs.FanLaws.{fan-lawful}
use Rattle.turn_tests.proofs.runs.start.Goals as goal

-- of the one machine
first-root : (roots machine machines : ℕ) → machines ≡ 1 → machine < machines → get_or (roots ∷ []) machine 0 ≡ roots
first-root roots machine machines one low = let first : machine ≡ 0 = omega arith in rw first refl

pub returns : goal.returns
returns c =
    let shape = c.args.shape.now in
    let roots = c.args.fan.now.roots in
    let begun = c.in_ok-fabric.ensures in
    let is = (subst IsShared (c.fabric.view_is ∙ begun) c.fabric.invariant.shared).shape in
    let some = mul-pos is.some_machine is.some_worker in
    fresh-fits PlainAgrees plain_shape roots_at (fan_tree c.args.fan.now) c.in_ok-worker.worker c.in_ok-fabric.fabric shape 0 c.in_ok-worker.ensures is some
    (record { law = fan-lawful c.args.fan.now; same_stages = c.requires.stages; same_machines = c.requires.machines }) (ap plain_shape begun)
    (λ machine low. ap (λ s. roots_at s machine) begun ∙ first-root roots machine shape.machines c.requires.one low)
    (subst (λ s. PlainAgrees s 0 fresh_holding) (sym begun) (start-agrees shape (roots ∷ []) 0 is (let one = c.requires.one in omega arith) some))
