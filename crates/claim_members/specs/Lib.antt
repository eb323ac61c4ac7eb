pub mod ClaimMembers
pub mod GoalColumns
pub mod ClaimGoals
