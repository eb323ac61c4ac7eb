pub mod Judged
pub mod Columned
