pub mod Fans
pub mod Laws
