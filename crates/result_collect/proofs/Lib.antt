pub mod Collected
pub mod Growing
