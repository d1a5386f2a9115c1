pub mod Laws
pub mod Parts
pub mod Val
pub mod WellFormed
