pub mod Example
pub mod Document
