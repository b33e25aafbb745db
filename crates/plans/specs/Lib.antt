pub mod Pieces
pub mod Interference
pub mod Rank
pub mod Margins
pub mod Shape
pub mod InWords
