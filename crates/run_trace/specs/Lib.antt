pub mod Gauging
pub mod Replay
pub mod Rowless
pub mod Runs
