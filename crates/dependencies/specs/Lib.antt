-- the highest free name of each entry
pub mod Top
pub mod TopLaws
-- the same of the code's lists, who reads whom, and by which actions
pub mod Tops
pub mod Operands
pub mod Users
pub mod Actions
pub mod Prepared
pub mod Columned
