pub mod Bags
pub mod Batch
pub mod Laws
pub mod Leaves
pub mod Passes
pub mod Tree
pub mod Weight
pub mod Words
