pub mod Bags
pub mod Totals
pub mod Weights
