pub mod EvaluateCall
pub mod LentWords
