pub mod Append
pub mod Entries
pub mod Object
