pub mod Lengths
pub mod Settled
