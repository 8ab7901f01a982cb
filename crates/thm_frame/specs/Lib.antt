pub mod Items
pub mod Questions
pub mod Theorems
