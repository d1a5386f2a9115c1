pub mod Fans
pub mod FanLaws
pub mod Scripts
