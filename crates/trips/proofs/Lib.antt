pub mod Numbers
pub mod Good
pub mod InParts
pub mod ReadBack
pub mod RoundTrip
pub mod Taken
pub mod Accepted
pub mod Files
pub mod Trips
pub mod Parts
mod Examples
