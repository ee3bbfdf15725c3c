pub mod Bank
pub mod Tick
