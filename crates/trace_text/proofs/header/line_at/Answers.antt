use Rattle.std.proofs.Common.{◌∙◌, ap, sym, ◌==◌, position}
use Rattle.std.specs.Str.Lines.{lines}
use Rattle.trace_text.proofs.LineEnds.{next_line, last_line}
use Rattle.trace_text.proofs.header.line_at.Goals as goal

pub returns-in-Some : goal.returns-in-Some
returns-in-Some c =
    let rest = c.rest_from-rest.ensures in
    next_line c.args.bytes.now c.args.from c.in-Some.end c.in_ok-line.line.now _ c.requires
    (ap (position (λ b. b == 10)) (sym rest) ∙ sym c.feed_at.ensures ∙ c.in-Some.is)
    (ap lines (sym rest) ∙ sym c.new.ensures.left ∙ c.in_ok-line.ensures.line)

pub returns-in-None : goal.returns-in-None
returns-in-None c =
    let rest = c.rest_from-rest.ensures in
    last_line c.args.bytes.now c.args.from c.in_ok-line.line.now _ c.requires
    (ap (position (λ b. b == 10)) (sym rest) ∙ sym c.feed_at.ensures ∙ c.in-None.is)
    (ap lines (sym rest) ∙ sym c.new.ensures.left ∙ c.in_ok-line.ensures.line)
