pub mod ScanLaws
pub mod SetTells
pub mod PassedOn
pub mod Earned
