pub mod Joined
pub mod Laws
pub mod Names
pub mod Scope
