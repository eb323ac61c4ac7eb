pub mod ProofHead
pub mod ProofLaws
pub mod ProofSteps
pub mod ProofWhole
pub mod ProofKinds
