-- what is built
pub mod Shift
pub mod Goals
pub mod Joined
pub mod GoalLaws
-- one proof inside another, further on
pub mod Sits
-- the joined proof is correct
pub mod JoinedTree
pub mod JoinedRoot
pub mod JoinedCorrect
-- 73 computed
pub mod FitTest
-- at the level of files
pub mod JoinedFile
pub mod Lengths
pub mod Half
pub mod FileBytes
pub mod Answer
pub mod JoinSamples
