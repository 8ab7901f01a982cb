pub mod Pats
pub mod Exprs
pub mod PatParts
pub mod Roots
pub mod Paths
pub mod EntryParts
