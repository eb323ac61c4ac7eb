pub mod StateWords
pub mod TopDown
pub mod Rows
