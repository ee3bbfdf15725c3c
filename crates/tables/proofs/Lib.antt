pub mod TableLaws
pub mod CellBytes
