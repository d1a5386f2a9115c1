use Rattle.match_context.proofs.Weights.{weights_fall_by_answers}
use Rattle.match_context.proofs.laws.weights_fall_by_answers.Goals as goal

pub returns : goal.returns
returns c = weights_fall_by_answers
