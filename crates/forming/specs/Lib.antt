-- own meanings are reached by any iteration that closes
pub mod TowardLaws
pub mod Settled
pub mod FormedLaws
-- the same of the code's lists
pub mod Claim
pub mod ClaimProp
pub mod Ready
-- by the structs that hold them
pub mod Columned
