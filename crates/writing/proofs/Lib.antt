pub mod CodeLaws
pub mod WritingLaws
