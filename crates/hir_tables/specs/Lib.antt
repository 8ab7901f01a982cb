pub mod FirstOf
pub mod Theorems
pub mod Tables
