use Rattle.std.proofs.Common.{◌∙◌, sym}
use Rattle.typed_expr.proofs.SameUses.{place-found, place-none}
use Rattle.typed_expr.proofs.capture_set.Captures.place_of.Goals as goal

pub returns-in-Some : goal.returns-in-Some
returns-in-Some c =
    let keys = c.self.inside.set.keys in
    rw (← c.self.view_is) (place-found (λ u. u.capture) c.args.used keys c.in-Some.place (sym c.in-Some.ensures.index))

pub returns-in-None : goal.returns-in-None
returns-in-None c =
    let keys = c.self.inside.set.keys in
    rw (← c.self.view_is) (c.len.ensures.len ∙ place-none (λ u. u.capture) c.args.used keys (sym c.in-None.ensures.index))
