pub mod ClaimEntry
pub mod ClaimEntries
