pub mod Account
pub mod Calls
pub mod Fabric
pub mod Plain
pub mod Queue
pub mod Shared
pub mod View
