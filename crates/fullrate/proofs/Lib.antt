pub mod AllowedTurns
pub mod Cores
pub mod SameSets
pub mod SameRuns
pub mod Settled
pub mod Turns
