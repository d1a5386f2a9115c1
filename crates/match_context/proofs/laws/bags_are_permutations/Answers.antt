use Rattle.match_context.proofs.Bags.{bags_are_permutations}
use Rattle.match_context.proofs.laws.bags_are_permutations.Goals as goal

pub returns : goal.returns
returns c = bags_are_permutations
