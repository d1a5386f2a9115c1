use Rattle.std.proofs.Common.{◌∙◌, sym, ap}
use Rattle.trace_text.specs.Reading.{event_of}
use Rattle.trace_text.proofs.Lines.{line_of_said, line_said}
use Rattle.trace_text.proofs.event_line.read_event.Goals as goal

pub returns-clause-exact : goal.returns-clause-exact
returns-clause-exact c event = (
  (λ found. line_of_said c.args.line.now event (sym c.event_of.ensures ∙ found)),
  (λ line. c.event_of.ensures ∙ ap event_of line.1 ∙ line_said event line.0),
)
