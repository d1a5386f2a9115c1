pub mod Added
mod Forests
pub mod Joins
mod Lists
mod Named
