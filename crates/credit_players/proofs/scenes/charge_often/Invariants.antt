use Rattle.std.proofs.Common.{◌≡◌, None}
use Rattle.credit_players.specs.Players.{IsReady}
use Rattle.credit_players.proofs.scenes.charge_often.Given as goal

abbrev pub invariant-loop-tried : goal.invariant-loop-tried
invariant-loop-tried l = record { ready : IsReady l.credits l.player; free : l.player.in_hand ≡ None }
