-- an entry's names in words, from those of its operands, and the refusal that it earns
pub mod RowMarks
pub mod EntryRows
pub mod Faults
-- one step of the judge of 20 to 23
pub mod JudgeSteps
-- the rows of free names alone
pub mod FreeRows
