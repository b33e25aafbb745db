pub mod Answers
pub mod Below
pub mod Places
pub mod Refusals
pub mod Tables
