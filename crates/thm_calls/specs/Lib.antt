pub mod Readings
pub mod Promises
pub mod Frames
pub mod ByRules
pub mod ByList
pub mod AtNodes
pub mod Outside
