pub mod Recorded
pub mod Adding
pub mod Lent
