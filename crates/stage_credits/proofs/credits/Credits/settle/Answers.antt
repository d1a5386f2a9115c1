use Rattle.std.proofs.Common.{sym, ◌∙◌}
use Rattle.stage_credits.specs.Seats.{ClaimsMeet}
use Rattle.stage_credits.proofs.Weights.{ChunksWeigh-meet}
use Rattle.stage_credits.proofs.credits.Credits.settle.Goals as goal

pub returns-clause-weights : goal.returns-clause-weights
returns-clause-weights c =
    let cursors = c.read_out.result in
    let seats = c.args.seats.items in
    let machines = c.args.self.setup.shape.machines in
    let meet : ClaimsMeet machines cursors seats = λ m place below.
    let same = sym (c.gather-whole.ensures.chunks m place) in
    let at = c.read_out.ensures.claims m place below in
    ((λ lt. same ∙ at.0 lt), (λ le. same ∙ at.1 le)) in
    ChunksWeigh-meet machines cursors seats meet
