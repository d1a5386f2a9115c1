pub mod Again
pub mod SoFar
