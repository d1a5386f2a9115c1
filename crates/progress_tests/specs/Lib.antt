pub mod Fans
pub mod Laws
pub mod Scenes
