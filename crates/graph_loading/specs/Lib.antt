pub mod Loaded
pub mod Reaching
pub mod Rows
pub mod Steps
