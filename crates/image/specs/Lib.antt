pub mod Groups
pub mod Codes
pub mod Reading
pub mod Normal
pub mod Answers
