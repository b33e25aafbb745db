pub mod Sums
pub mod Filled
pub mod Parts
pub mod Accepted
pub mod Settled
