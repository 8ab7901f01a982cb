pub mod Abis
pub mod Bounds
pub mod Calls
pub mod Params
pub mod Single
