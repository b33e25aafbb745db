pub mod Limit
pub mod Whole
pub mod Shared
pub mod Layout
pub mod Asked
pub mod NotPlaceable
