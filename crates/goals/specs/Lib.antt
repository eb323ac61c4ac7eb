pub mod Goals
pub mod GoalStages
pub mod Columned
