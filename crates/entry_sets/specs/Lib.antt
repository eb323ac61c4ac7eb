-- sets of entries, and the measure of a loop over one
pub mod Counting
pub mod Sets
