pub mod Loop
pub mod Chain
pub mod Examples
