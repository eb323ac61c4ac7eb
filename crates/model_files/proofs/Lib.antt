pub mod ModelExact
pub mod OneMore
pub mod HeaderFaults
pub mod StateFaults
pub mod ModelFaults
pub mod DescribedLaws
