use Rattle.std.proofs.Common.{◌∙◌}
use Rattle.value_text.proofs.Places.{position_map}
use Rattle.value_text.proofs.texts.Texts.find.Goals as goal

pub returns-in-Some-clause-place : goal.returns-in-Some-clause-place
returns-in-Some-clause-place c =
    rw (← c.self.view_is) (c.in-Some.ensures.index ∙ position_map (λ k. k.items) c.args.text.now c.self.inside.set.keys)

pub returns-in-None-clause-place : goal.returns-in-None-clause-place
returns-in-None-clause-place c =
    rw (← c.self.view_is) (c.in-None.ensures.index ∙ position_map (λ k. k.items) c.args.text.now c.self.inside.set.keys)
