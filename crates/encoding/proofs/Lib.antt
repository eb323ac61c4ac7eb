pub mod ParseLaws
pub mod ListLaws
pub mod ChainLaws
pub mod ListFaults
pub mod FileLaws
pub mod FieldLaws
