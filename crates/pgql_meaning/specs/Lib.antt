pub mod Answer
pub mod Assignments
pub mod Captured
pub mod Fits
pub mod Laws
pub mod Pruned
pub mod Shown
