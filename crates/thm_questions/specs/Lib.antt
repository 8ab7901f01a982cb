pub mod Parts
pub mod Nodes
pub mod Decided
pub mod Asked
pub mod Lists
pub mod Areas
pub mod Theorems
pub mod Forms
