use Rattle.credit_players.specs.Players.{IsReady}
use Rattle.credit_players.proofs.player.Player.claim_all.Given as goal

abbrev pub invariant-loop : goal.invariant-loop
invariant-loop l = IsReady l.credits l.self
