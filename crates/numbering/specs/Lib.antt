-- names: those of a list that pass a test, and the free names of an entry by its shape
pub mod Only
pub mod FreeNames
-- an entry below fixpoints, and below those alone that bind in it
pub mod Renaming
pub mod Narrowing
-- an entry with some of its names bound
pub mod Forms
pub mod Count
-- numbers for these, how a table of them is filled, and that a filled one tells formulas apart
pub mod Filled
pub mod LevelLaws
pub mod Filling
pub mod FilledCanon
