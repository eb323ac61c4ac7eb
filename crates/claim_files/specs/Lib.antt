pub mod ClaimFile
pub mod ReadClaim
pub mod ClaimExact
pub mod ClaimDocument
pub mod ClaimFaults
pub mod ClaimRecords
pub mod FaultNumbers
