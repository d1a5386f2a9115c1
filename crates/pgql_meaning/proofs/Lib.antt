pub mod AnyOrder
pub mod ByAssignment
pub mod ByKeys
pub mod Extensions
pub mod Matches
pub mod Once
pub mod Pruning
pub mod Validity
