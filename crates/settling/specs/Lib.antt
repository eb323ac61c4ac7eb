pub mod Evaluated
pub mod Columned
