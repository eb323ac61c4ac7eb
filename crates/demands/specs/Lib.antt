-- what each call answers and leaves
pub mod Slices
pub mod Check
pub mod Present
pub mod Evaluate
-- what is right of the files
pub mod Correct
pub mod Earned
pub mod EvaluationEarned
-- the two agree, and what is accepted is sound
pub mod CheckExact
pub mod EvaluateExact
pub mod Sound
pub mod Written
pub mod Refutable
pub mod Goalless
pub mod Join
pub mod JoinExact
pub mod PresentLaws
-- the page
-- answers as numbers
pub mod Numbered
pub mod RefusedAs
pub mod Single
pub mod JoinCall
