pub mod Refusal
pub mod Streams
