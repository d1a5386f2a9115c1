use Rattle.std.proofs.Common.{◌∙◌, refl, sym}
use Rattle.csv_records.proofs.TableFacts.{mark}
use Rattle.csv_records.proofs.lines.without_mark.Goals as goal

pub returns-then-has_mark : goal.returns-then-has_mark
returns-then-has_mark c =
    let seen = sym c.has_mark.ensures ∙ c.if-has_mark.true in
    rw (mark c.args.text.now, seen, c.from_place.ensures) refl

pub returns-else-has_mark : goal.returns-else-has_mark
returns-else-has_mark c =
    let seen = sym c.has_mark.ensures ∙ c.if-has_mark.false in
    rw (mark c.args.text.now, seen) refl
