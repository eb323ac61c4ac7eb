pub mod FalseSets
pub mod Rank
pub mod Stages
pub mod StageLaws
pub mod Complete
