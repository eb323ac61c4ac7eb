pub mod SameEntries
pub mod Sifting
pub mod Entering
pub mod Focused
pub mod Fitting
pub mod RestKept
pub mod GoalsJoined
