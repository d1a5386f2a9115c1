pub mod Fronts
pub mod Laws
pub mod Parts
pub mod Pieces
pub mod Places
pub mod Tokens
