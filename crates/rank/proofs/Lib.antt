pub mod StageLaws
pub mod Complete
