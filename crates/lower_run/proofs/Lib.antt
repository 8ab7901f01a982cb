mod Calls
pub mod Listed
