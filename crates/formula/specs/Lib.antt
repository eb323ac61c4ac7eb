-- the records
pub mod Kind
pub mod Rule
pub mod Table
pub mod Codes
pub mod Nodes
pub mod Spelled
pub mod Claim
pub mod NamedForm
pub mod Fields
pub mod FieldLaws
pub mod Records
pub mod Members
-- syntax
pub mod Shape
pub mod Target
pub mod TableLaws
pub mod ShapeLaws
pub mod Below
-- tables in plain lists of numbers
pub mod Plain
pub mod Columns
pub mod PlainNodes
pub mod NodeColumns
pub mod Held
pub mod CodeCounts
pub mod Columned
