pub mod Walk
pub mod Settled
pub mod Asking
pub mod SameBounds
pub mod Recording
pub mod Summed
