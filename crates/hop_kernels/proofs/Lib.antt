pub mod EntryLists
pub mod LabelNumbers
pub mod Rising
pub mod Roots
pub mod Seeks
pub mod SeenWords
pub mod StageFitting
