use Rattle.std.proofs.Common.{refl, sym, ap, ◌∙◌, length}
use Rattle.std.specs.Prelude.{nat_lt}
use Rattle.fabric.proofs.Tables.{Pushed, pushed, not-pushed, same-read}
use Rattle.fabric.proofs.plain.PlainFabric.push.Goals as goal

pub returns-then-not-has_space-clause-err : goal.returns-then-not-has_space-clause-err
returns-then-not-has_space-clause-err c = (
  not-pushed c.self.inside c.args.self.now c.args.message c.inbox_place-at.result c.index.result.now c.self.invariant c.self.view_is c.requires.stage
      c.inbox_place-at.ensures.at c.inbox_place-at.ensures.within c.index.ensures (sym c.has_space.ensures ∙ c.if-not-has_space.true),
  refl,
  refl,
)

left : (c : goal.After-self-1) → Pushed c.self.inside c.args.self.now c.args.message c.inbox_place-at.result c.push.new.self
left c =
    let same = same-read c.self.inside c.args.self.now c.inbox_place-at.result c.index.result.now c.index_mut.result.now c.self.view_is
    c.inbox_place-at.ensures.within c.index.ensures c.index_mut.ensures.value in
    pushed c.self.inside c.args.self.now c.args.message c.inbox_place-at.result c.index_mut.result.now c.push.new.self c.self.invariant c.self.view_is c.requires.stage
    c.inbox_place-at.ensures.at c.inbox_place-at.ensures.within c.index_mut.ensures.value
    (ap (λ q. nat_lt (length q.messages) q.room) (sym same) ∙ sym c.has_space.ensures ∙ c.if-not-has_space.false) c.push.ensures

pub invariant_of-self : goal.invariant_of-self
invariant_of-self c = (left c).0

pub returns-clause-ok : goal.returns-clause-ok
returns-clause-ok c = ((left c).1, (left c).2)
