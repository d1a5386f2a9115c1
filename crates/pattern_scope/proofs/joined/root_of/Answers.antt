use Rattle.pattern_scope.proofs.Forests.{reached-next, reached-start}
use Rattle.pattern_scope.proofs.joined.root_of.Goals as goal

pub loop-parents-init : goal.loop-parents-init
loop-parents-init c = reached-start c.args.parents.now c.args.number c.requires.forest c.requires.inside

pub loop-parents-preserved : goal.loop-parents-preserved
loop-parents-preserved c =
    reached-next c.args.parents.now c.loop-parents.parents c.halve-at.new.parents c.args.number c.loop-parents.at c.halve-at.result c.loop-parents.invariant
    c.halve-at.ensures.nearer c.halve-at.ensures.changed c.halve-at.ensures.next c.halve-at.ensures.falls
