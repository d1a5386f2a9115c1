pub mod EndFacts
pub mod RowLaws
pub mod SoundFacts
pub mod LoadFacts
pub mod StoreFacts
pub mod BegunFacts
pub mod ReachFacts
pub mod LongFacts
