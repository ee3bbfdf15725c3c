pub mod ChunkLaws
pub mod BankLaws
pub mod TickLaws
