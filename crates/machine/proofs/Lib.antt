pub mod ExitLaws
pub mod StandLaws
pub mod FieldLaws
