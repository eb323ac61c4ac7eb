pub mod Added
pub mod Edges
