-- a block of a table: gathered, and iterated until it closes
pub mod Iteration
pub mod Gathering
-- the same of the code's lists
pub mod Growing
pub mod Waking
pub mod Turn
pub mod Columned
