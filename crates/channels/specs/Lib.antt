pub mod Channel
pub mod Frame
pub mod Run
