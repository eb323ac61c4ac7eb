pub mod FilesLaws
pub mod FilesExact
