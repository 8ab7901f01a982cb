pub mod Scopes
pub mod Placed
