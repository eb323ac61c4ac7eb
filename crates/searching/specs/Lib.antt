pub mod Search
pub mod Shaped
