pub mod Levels
pub mod Same
pub mod Literals
pub mod AllPlaces
