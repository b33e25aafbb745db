pub mod Bound
pub mod Asking
pub mod Certificate
pub mod Leaves
