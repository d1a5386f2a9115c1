pub mod Layout
pub mod Lists
pub mod Views
pub mod Rule
pub mod Start
pub mod Seats
pub mod Answers
