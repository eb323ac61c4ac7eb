pub mod Stand
pub mod NumberMore
pub mod Marked
pub mod Rounds
pub mod Shaped
