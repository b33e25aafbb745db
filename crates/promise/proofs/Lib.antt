pub mod Accepting
pub mod Sound
pub mod Choice
pub mod Rules
pub mod Join
pub mod Runs
pub mod Ages
pub mod TooSoon
pub mod LeftOut
pub mod Certificate
pub mod Cores
pub mod Demand3
mod Examples
