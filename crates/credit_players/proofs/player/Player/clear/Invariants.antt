use Rattle.credit_players.specs.Players.{IsReady}
use Rattle.credit_players.proofs.player.Player.clear.Given as goal

abbrev pub invariant-loop-random : goal.invariant-loop-random
invariant-loop-random l = IsReady l.credits l.self
