pub mod Bound
pub mod Scoping
pub mod Examples
