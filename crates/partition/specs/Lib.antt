pub mod Faults
pub mod Kept
pub mod Laws
pub mod OwnerFile
pub mod Owners
pub mod Parts
