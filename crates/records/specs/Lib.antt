pub mod Numbers
pub mod Verdicts
pub mod Bits
pub mod Words
pub mod Lists
pub mod Tags
pub mod Answers
