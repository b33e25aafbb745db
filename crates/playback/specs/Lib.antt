pub mod Requests
pub mod Players
pub mod Replay
