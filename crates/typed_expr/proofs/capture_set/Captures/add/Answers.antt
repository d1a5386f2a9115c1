use Rattle.typed_expr.proofs.SameUses.{inserted}
use Rattle.typed_expr.proofs.capture_set.Captures.add.Goals as goal

pub returns : goal.returns
returns c =
    let keys = c.self.inside.set.keys in
    rw (← c.self.view_is, c.in_ok-_place.ensures.keys) (inserted (λ u. u.capture) (record { capture = c.args.used }) keys)
