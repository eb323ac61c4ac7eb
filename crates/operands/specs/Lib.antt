-- refusal 20 in plain numbers
pub mod OperandBounds
