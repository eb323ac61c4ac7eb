pub mod JudgeExact
pub mod Actions
