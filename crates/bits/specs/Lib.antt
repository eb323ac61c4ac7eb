pub mod IfSet
pub mod Bits
pub mod WordLaws
pub mod WordSet
pub mod LowestBit
