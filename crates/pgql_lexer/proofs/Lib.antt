mod Between
mod Digits
mod Parts
pub mod Steps
mod Scanning
mod Ends
mod Cuts
