pub mod EvaluateFiles
pub mod EvaluateStages
