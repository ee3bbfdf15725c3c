pub mod StateCalls
