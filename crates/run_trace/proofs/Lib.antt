mod Changes
mod Counted
mod Inboxes
pub mod Replays
mod Rowless
