pub mod Numbering
pub mod Readable
pub mod Columned
