pub mod Functions
pub mod Headline
pub mod Reached
pub mod Examples
