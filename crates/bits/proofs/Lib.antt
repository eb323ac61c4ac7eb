pub mod WordSet
