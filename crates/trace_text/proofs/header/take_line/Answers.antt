use Rattle.std.proofs.Common.{◌∙◌, sym, refl}
use Rattle.trace_text.proofs.Places.{after_place, at_place, no_place}
use Rattle.trace_text.proofs.header.take_line.Goals as goal

pub returns-in-Some-clause-line : goal.returns-in-Some-clause-line
returns-in-Some-clause-line c = at_place _ c.args.place _ _ (sym c.requires.lines ∙ c.in-Some.ensures.0)

pub returns-in-Some-clause-follows : goal.returns-in-Some-clause-follows
returns-in-Some-clause-follows c =
    record { within = c.in-Some.ensures.1; lines = sym (after_place _ c.args.place _ _ (sym c.requires.lines ∙ c.in-Some.ensures.0)) }

pub returns-in-None-clause-none : goal.returns-in-None-clause-none
returns-in-None-clause-none c = (refl, no_place _ c.args.place (sym c.requires.lines ∙ c.in-None.ensures))
