-- free names, well-formed tables, and conditions 20 to 23
pub mod Free
pub mod WellFormed
pub mod Conditions
pub mod Formed
pub mod WellFormedLaws
-- refusals 20 to 23 computed
pub mod Upward
pub mod Rows
pub mod RowLaws
pub mod Judge
pub mod TestLaws
pub mod JudgeExact
-- shapes and their tests by kind numbers
pub mod KindShapes
pub mod Actions
