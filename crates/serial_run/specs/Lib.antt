pub mod Engines
pub mod Jobs
