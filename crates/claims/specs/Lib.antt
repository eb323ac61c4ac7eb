pub mod ClaimWalk
pub mod ClaimBeginning
