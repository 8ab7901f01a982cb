pub mod Endless
pub mod Odd
