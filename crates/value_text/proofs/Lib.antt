pub mod Days
pub mod Filled
pub mod Numerals
pub mod Orders
pub mod Places
pub mod ReadsBack
pub mod Staying
