pub mod Walk
pub mod Calls
pub mod Keeping
pub mod Turns
pub mod Settled
