-- what the code computes: tables of owners and flags
-- the whole, stage by stage
pub mod JudgeStages
-- over the program's columns
pub mod Columned
