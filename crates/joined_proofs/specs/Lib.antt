pub mod Laid
pub mod Focusing
pub mod Parts
