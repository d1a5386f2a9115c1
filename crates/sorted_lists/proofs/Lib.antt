pub mod Alike
pub mod Among
pub mod Ascending
pub mod Calls
pub mod Mapped
pub mod Unique
