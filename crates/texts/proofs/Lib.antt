pub mod Putting
pub mod Telling
pub mod Settled
