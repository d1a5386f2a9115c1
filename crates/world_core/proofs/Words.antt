-- The tables of what is shared, after one number of them has changed.
pub use Rattle.fabric.proofs.Words.{word-tells, place-within, place-apart, word-raised, word-lowered, number-tells, number-raised, number-lowered}
