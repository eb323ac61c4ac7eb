pub mod Owners
pub mod Columned
pub mod OwnerLaws
pub mod AdoptLaws
pub mod Stamps
pub mod TreeStages
