pub mod Kept
pub mod Alike
