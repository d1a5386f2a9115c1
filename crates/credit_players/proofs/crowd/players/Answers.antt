use Rattle.std.proofs.Common.{List, length, sym, ap, subst, ◌∙◌}
use Rattle.std.proofs.lemmas.List.{length-map}
use Rattle.std.specs.List.{All}
use Rattle.credit_players.specs.declared.player.Player.{Player}
use Rattle.credit_players.specs.Players.{IsReady, player_of}
use Rattle.credit_players.proofs.Fresh.{all_ready, length-fresh}
use Rattle.credit_players.proofs.crowd.players.Goals as goal

pub returns-clause-ready : goal.returns-clause-ready
returns-clause-ready c =
    let credits = c.args.credits.now in
    subst (λ (ps : List Player). All (IsReady credits) ps) (sym c.in_ok-players.ensures) (all_ready credits c.args.seats.items c.requires.workers c.requires.fresh)

pub returns-clause-count : goal.returns-clause-count
returns-clause-count c =
    let credits = c.args.credits.now in
    let seats = c.args.seats.items in
    ap (λ (ps : List Player). length ps) c.in_ok-players.ensures ∙ (length-map seats player_of ∙ length-fresh credits seats c.requires.fresh)
