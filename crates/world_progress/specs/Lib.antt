pub mod Choice
pub mod Stuck
