pub mod AstFolds
pub mod Cases
mod Counts
