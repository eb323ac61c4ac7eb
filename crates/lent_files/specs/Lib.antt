-- what lent records hold
pub mod LentSlices
-- what is judged of the files in them
pub mod LentJudged
