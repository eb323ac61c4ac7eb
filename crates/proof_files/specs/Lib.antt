pub mod ProofFile
pub mod ReadProof
pub mod ProofExact
pub mod ProofDocument
pub mod NodeFaults
pub mod ProofRecords
pub mod ProofParts
pub mod FaultNumbers
