pub mod Folds
pub mod Claims
