pub mod CellCounts
pub mod CutLaws
pub mod CutBytes
pub mod CutLeads
pub mod VerdictLaws
pub mod WriteLaws
