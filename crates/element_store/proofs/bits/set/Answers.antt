use Rattle.std.proofs.Common.{arith, ◌/◌}
use Rattle.std.proofs.lemmas.List.{get_or_read}
use Rattle.element_store.proofs.BitFacts.{flags_set}
use Rattle.element_store.proofs.bits.set.Goals as goal

pub returns-clause-same : goal.returns-clause-same
returns-clause-same c =
    let word = get_or_read c.args.words.now.items (c.args.i / 64) _ (omega (arith, c.args.words.now.ok.0)) c.index-word.ensures 0 in
    flags_set c.args.words.now.items c.with_bit.result c.args.i (omega arith) (λ j k ne. rw (← word) (c.with_bit.ensures.others j k ne))
