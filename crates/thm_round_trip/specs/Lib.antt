pub mod Yields
pub mod Theorems
pub mod Asked
