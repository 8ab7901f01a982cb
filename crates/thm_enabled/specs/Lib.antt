pub mod Asks
pub mod Own
pub mod Whole
pub mod Asked
pub mod Body
pub mod Pruned
pub mod Theorems
pub mod Lowered
