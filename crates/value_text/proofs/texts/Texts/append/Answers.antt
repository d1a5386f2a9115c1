use Rattle.std.proofs.Common.{◌∙◌, arith, ◌<◌, ◌^◌, ◌-◌, length, map}
use Rattle.value_text.proofs.Places.{IsDistinct-with_text, inserted, length-with_text, number_map}
use Rattle.value_text.proofs.texts.Texts.append.Goals as goal

pub returns-clause-number : goal.returns-clause-number
returns-clause-number c =
    let keys = c.self.inside.set.keys in
    rw (← c.self.view_is, ← c.in_ok-copy.ensures) (c.in_ok-number.ensures.index ∙ number_map (λ k. k.items) c.in_ok-copy.copy.items keys)

pub returns-clause-texts : goal.returns-clause-texts
returns-clause-texts c =
    let keys = c.self.inside.set.keys in
    rw (← c.self.view_is, ← c.in_ok-copy.ensures, c.in_ok-number.ensures.keys) (inserted (λ k. k.items) c.in_ok-copy.copy keys)

pub invariant_of-self-2 : goal.invariant_of-self-2
invariant_of-self-2 c =
    let keys = c.self.inside.set.keys in
    let old = map (λ k. k.items) keys in
    let e = inserted (λ k. k.items) c.in_ok-copy.copy keys in
    let few : length old < 2 ^ 32 - 1 = rw c.self.view_is c.requires in
    rw (c.in_ok-number.ensures.keys, e)
    (IsDistinct-with_text old c.in_ok-copy.copy.items c.self.invariant.0, omega (arith, few, length-with_text old c.in_ok-copy.copy.items))
