-- the program's steps over a file
pub mod Judged
pub mod Begins
pub mod Slices
pub mod HeaderSteps
pub mod ListSteps
pub mod SuccessorsRise
pub mod ActionSteps
pub mod FileSteps
-- what a good file decodes to
pub mod Values
pub mod Rows
pub mod Stored
pub mod SuccessorRun
pub mod Decoding
pub mod FileDecoding
pub mod Tables
