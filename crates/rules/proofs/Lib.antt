pub mod JudgeStages
