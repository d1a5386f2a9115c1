use Rattle.credit_players.specs.Players.{IsReady}
use Rattle.credit_players.proofs.player.Player.fill_each.Given as goal

abbrev pub invariant-loop-kind : goal.invariant-loop-kind
invariant-loop-kind l = IsReady l.credits l.self
