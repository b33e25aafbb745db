pub mod Allowed
pub mod FullRate
pub mod Watched
pub mod Watching
