pub mod Bytes
pub mod Counts
pub mod Files
pub mod MemSink
pub mod MemStore
pub mod Shape
pub mod ShortTexts
