-- what lent records show, and the columns of plain numbers that stores and loads pass on
pub mod Records
pub mod RecordLaws
pub mod Shown
