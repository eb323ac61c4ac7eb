-- sets of names in four words, in rows of a list of words, and grown by one name at a time
pub mod NameSets
pub mod RowWords
pub mod MarksBelow
pub mod Ordered
