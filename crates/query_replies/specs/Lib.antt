pub mod Asked
pub mod Faults
pub mod Laws
pub mod Replies
pub mod Verdicts
