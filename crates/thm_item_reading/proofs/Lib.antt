mod Parts
pub mod Items
pub mod Alone
pub mod One
