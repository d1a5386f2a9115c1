pub mod Variants
pub mod Bare
