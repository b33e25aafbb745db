pub mod Good
pub mod Settled
pub mod Ending
pub mod Course
pub mod Parts
pub mod Said
