pub mod Moving
pub mod Copying
