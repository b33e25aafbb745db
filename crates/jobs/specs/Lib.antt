pub mod Jobs
pub mod Sets
pub mod WellMade
