pub mod ProofExact
pub mod NodeFaults
pub mod ProofFaults
