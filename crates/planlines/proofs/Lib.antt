pub mod Lengths
pub mod SameListings
pub mod Settled
