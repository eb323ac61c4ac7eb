pub mod Filling
pub mod FilledLevels
pub mod FilledExact
pub mod FilledCanon
