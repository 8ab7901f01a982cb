pub mod GeneratedNames
pub mod Segments
mod Arguments
mod Examples
pub mod Trees
mod PatternRows
mod TargetRows
mod SetsExample
mod Places
