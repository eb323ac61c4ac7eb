pub mod Paths
pub mod PathLaws
pub mod LoopStages
