pub mod ClaimExact
pub mod ClaimParts
pub mod ClaimFaults
