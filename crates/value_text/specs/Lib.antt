pub mod Cells
pub mod Dates
pub mod Laws
pub mod Numbers
pub mod Order
pub mod Shown
pub mod Texts
pub mod Valid
