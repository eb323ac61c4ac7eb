pub mod Swept
pub mod Columned
