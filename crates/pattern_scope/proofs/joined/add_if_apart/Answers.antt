use Rattle.std.proofs.Common.{◌∙◌, ◌++◌, sym, ap}
use Rattle.std.proofs.lemmas.List.{append-nil}
use Rattle.pattern_scope.proofs.Joins.{apart-told, together-told}
use Rattle.pattern_scope.proofs.joined.add_if_apart.Goals as goal

pub returns-in_ok-push : goal.returns-in_ok-push
returns-in_ok-push c = λ links are.
    c.in_ok-push.ensures.ok ∙ ap (λ more. c.args.faults.now ++ more) (sym (apart-told links c.args.groups.now c.args.number c.args.at are c.requires c.if-groups-number.true))

pub returns-else-groups-number : goal.returns-else-groups-number
returns-else-groups-number c = λ links are.
    sym (ap (λ more. c.args.faults.now ++ more) (together-told links c.args.groups.now c.args.number c.args.at are c.requires c.if-groups-number.false) ∙ append-nil c.args.faults.now)
