-- what is right
pub mod Sequents
pub mod Tree
pub mod Paths
pub mod Rules
pub mod Loops
pub mod CorrectNodes
-- refusals 35 to 39: what each means, and the first one computed
pub mod Goals
pub mod Given
pub mod Faults
pub mod Alike
pub mod View
pub mod ViewLaws
pub mod Judge
pub mod Steps
-- the judge compares keys where the rules compare members
pub mod MemberLaws
pub mod KeyLaws
-- and its tests are exact
pub mod TreeLaws
pub mod ClimbLaws
pub mod AxiomLaws
pub mod PrincipalLaws
pub mod BoxLaws
pub mod LoopLaws
pub mod GoalLaws
pub mod JudgeExact
pub mod RuleSamples
pub mod GoalSamples
-- soundness
pub mod Falsity
pub mod Refutes
pub mod NodeStep
pub mod Reached
pub mod Kripke
