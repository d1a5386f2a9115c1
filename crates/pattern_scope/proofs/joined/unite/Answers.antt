use Rattle.std.proofs.Common.{◌∙◌, sym}
use Rattle.pattern_scope.proofs.joined.unite.Goals as goal

pub returns-clause-respected : goal.returns-clause-respected
returns-clause-respected c = λ set respected same.
    let first = c.root_of-a.ensures.nearer.respected set respected in
    let second = c.root_of-b.ensures.nearer.respected set first in
    c.tie.ensures.respected set second (c.root_of-a.ensures.respected set respected ∙ same ∙ sym (c.root_of-b.ensures.respected set first))
