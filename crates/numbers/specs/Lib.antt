pub mod Numbered
pub mod First
pub mod Begun
pub mod Ended
pub mod Tabled
