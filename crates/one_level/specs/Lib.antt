pub mod Kinds
pub mod Agree
pub mod Fit
pub mod LevelTest
pub mod Shaped
