pub mod Answers
pub mod Pins
