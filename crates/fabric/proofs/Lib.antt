pub mod Agrees
pub mod Meets
pub mod Starts
pub mod Tables
pub mod Words
