pub mod Model
pub mod Moments
pub mod Certificate
