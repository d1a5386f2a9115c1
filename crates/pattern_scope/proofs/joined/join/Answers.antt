use Rattle.pattern_scope.proofs.Forests.{joined-end, joined-further}
use Rattle.pattern_scope.proofs.joined.join.Goals as goal

pub rounds-preserved : goal.rounds-preserved
rounds-preserved c =
    joined-further _ c.args.links.now c.rounds.parents c.unite_all.new.parents c.flatten.new.parents c.rounds.invariant c.unite_all.ensures.as_many c.unite_all.ensures.respected
    c.flatten.ensures.nearer c.flatten.ensures.flat

pub returns : goal.returns
returns c = joined-end _ c.args.links.now c.rounds.parents c.unite_all.new.parents c.unite_all.result c.rounds-test.false c.rounds.invariant c.unite_all.ensures.known
