pub mod Tuples
pub mod Levels
pub mod Pieces
mod Firsts
mod ByKind
pub mod Said
