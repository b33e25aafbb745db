pub mod Potential
pub mod Room
pub mod Stage
pub mod Own
pub mod Safe
pub mod Since
