pub mod Faults
pub mod StatusLine
pub mod Steps
