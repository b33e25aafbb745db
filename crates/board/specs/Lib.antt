pub mod Ran
pub mod Kept
