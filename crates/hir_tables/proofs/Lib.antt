pub mod First
pub mod Theorems
pub mod Written
