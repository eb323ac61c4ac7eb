-- the gate's states and steps
pub mod GateState
pub mod Numbers
pub mod Plain
-- what a lent state holds
pub mod LentState
pub mod FaultNumbers
