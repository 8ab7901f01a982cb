pub mod Maps
pub mod Rolled
pub mod Induction
