pub mod Cursor
pub mod SameKind
pub mod Taking
pub mod Values
pub mod Sound
pub mod Runs
