pub mod First
pub mod Tracked
pub mod Walked
