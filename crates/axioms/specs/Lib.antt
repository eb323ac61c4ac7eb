pub mod AxiomParts
