pub mod Walks
pub mod Runners
pub mod Settled
pub mod Making
