pub mod FaultNumbers
pub mod Wholly
pub mod Ready
pub mod Paired
pub mod Columned
