pub mod Laying
pub mod Goals
pub mod Files
