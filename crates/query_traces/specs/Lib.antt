pub mod Again
pub mod Traces
