pub mod Meant
pub mod Agree
