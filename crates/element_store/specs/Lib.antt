pub mod Bits
pub mod Cells
pub mod Columns
pub mod Elements
pub mod Rows
pub mod Slots
pub mod Tables
pub mod Words
