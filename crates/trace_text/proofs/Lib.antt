mod Cuts
mod Feeds
mod Files
pub mod HeaderLines
mod LineEnds
pub mod Lines
mod Numerals
mod Places
pub mod PlainLines
