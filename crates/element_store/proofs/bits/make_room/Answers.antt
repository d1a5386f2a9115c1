use Rattle.element_store.proofs.BitFacts.{flags_longer}
use Rattle.element_store.proofs.bits.make_room.Goals as goal

pub returns-in_ok-push-clause-same : goal.returns-in_ok-push-clause-same
returns-in_ok-push-clause-same c = rw c.in_ok-push.ensures.items (flags_longer c.args.words.now.items 0 c.args.len c.requires.room)
