-- the word of a set of states, and the word of each entry in a model
pub mod Words
pub mod WordLaws
-- bits of words, and how loops make words and fill arrays
pub mod BitLaws
pub mod Fill
pub mod StateWords
pub mod TopDown
-- a model in plain numbers, and its successors as words
pub mod PlainModel
pub mod Rows
