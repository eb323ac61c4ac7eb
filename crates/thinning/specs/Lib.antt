pub mod Marked
pub mod AllMarked
pub mod Columns
pub mod Tabled
pub mod Owned
