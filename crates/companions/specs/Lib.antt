pub mod Companions
pub mod CompanionLaws
