use Rattle.std.proofs.Common.{refl, sym}
use Rattle.text_lines.proofs.LineFacts.{lines_none, lines_some}
use Rattle.text_lines.proofs.lines.Lines.next.Goals as goal

pub returns-in-Some-clause-line : goal.returns-in-Some-clause-line
returns-in-Some-clause-line c =
    rw (← c.self.view_is, c.stripped.ensures, c.after-self-inside.ensures) (lines_some c.self.inside.rest.now c.in-Some.n (sym c.in-Some.ensures))

pub returns-in-None-clause-line : goal.returns-in-None-clause-line
returns-in-None-clause-line c =
    rw (← c.self.view_is) (lines_none c.self.inside.rest.now (sym c.in-None.ensures) (sym c.if-is_empty.ensures))

pub returns-in-Some-clause-rest : goal.returns-in-Some-clause-rest
returns-in-Some-clause-rest c =
    rw (← c.self.view_is, c.after-self-inside.ensures, lines_some c.self.inside.rest.now c.in-Some.n (sym c.in-Some.ensures)) refl

pub returns-in-None-clause-rest : goal.returns-in-None-clause-rest
returns-in-None-clause-rest c =
    rw (← c.self.view_is, lines_none c.self.inside.rest.now (sym c.in-None.ensures) (sym c.if-is_empty.ensures)) refl
