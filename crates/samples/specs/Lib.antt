pub mod Parts
pub mod Files
pub mod NearMisses
pub mod Twins
pub mod Actions
pub mod Goals
pub mod Samples
pub mod Joins
