pub mod EventLines
pub mod Faults
pub mod Headers
pub mod Kinds
pub mod Laws
pub mod Numbers
pub mod Reading
pub mod Said
