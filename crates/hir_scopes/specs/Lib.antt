pub mod Bounds
pub mod Chains
pub mod Records
pub mod Forms
pub mod Parts
pub mod Lookup
