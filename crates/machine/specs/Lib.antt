pub mod Machine
pub mod Fields
pub mod Answers
