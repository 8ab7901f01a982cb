pub mod Reaching
pub mod Alias
pub mod Placing
pub mod Tracking
