-- definitions
pub mod Encode
pub mod Parse
pub mod Chain
pub mod Stages
pub mod File
pub mod Outcome
pub mod Parsed
-- laws
pub mod GotLaws
pub mod ParseLaws
pub mod ListLaws
pub mod Widths
pub mod FaultLaws
pub mod ChainLaws
pub mod ListFaults
pub mod FileLaws
pub mod ByteLaws
pub mod FieldLaws
pub mod Places
pub mod Known
-- a program's walk over a file that it indexes
pub mod FourPlaces
pub mod Sequence
pub mod Opening
pub mod Walk
