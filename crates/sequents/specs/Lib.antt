-- sequents as words
pub mod Part
pub mod CodeSet
pub mod Keys
-- nodes as they stand in the lists, and the test of each rule over them
pub mod Placed
pub mod KeptLaws
-- the program's columns
pub mod Columned
