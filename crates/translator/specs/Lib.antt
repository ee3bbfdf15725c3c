pub mod Answers
pub mod Translation
pub mod Cuts
