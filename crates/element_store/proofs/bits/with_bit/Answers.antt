use Rattle.std.proofs.Common.{w64, refl}
use Rattle.std.proofs.lemmas.Nat.Bits.{bit_at_clear_other, bit_at_clear_same, bit_at_set_other, bit_at_set_same}
use Rattle.element_store.proofs.bits.with_bit.Goals as goal

pub returns-then-value-clause-same : goal.returns-then-value-clause-same
returns-then-value-clause-same c = rw (bit_at_set_same w64 c.args.word c.args.at c.requires, c.if-value.true) refl

pub returns-then-value-clause-others : goal.returns-then-value-clause-others
returns-then-value-clause-others c = λ i k ne. bit_at_set_other w64 c.args.word c.args.at c.requires i ne

pub returns-else-value-clause-same : goal.returns-else-value-clause-same
returns-else-value-clause-same c = rw (bit_at_clear_same w64 c.args.word c.args.at c.requires, c.if-value.false) refl

pub returns-else-value-clause-others : goal.returns-else-value-clause-others
returns-else-value-clause-others c = λ i k ne. bit_at_clear_other w64 c.args.word c.args.at c.requires i k ne
