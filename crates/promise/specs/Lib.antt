pub mod View
pub mod Requests
pub mod TooSoon
pub mod Demand3
