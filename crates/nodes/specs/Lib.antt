pub mod ProofDecode
pub mod ProofStored
pub mod RootsStored
pub mod ProofGood
