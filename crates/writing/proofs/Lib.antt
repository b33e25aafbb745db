pub mod Writing
pub mod SameFiles
pub mod Settled
