pub mod Reached
pub mod Unrun
pub mod Named
pub mod Pats
pub mod Roots
pub mod TypeResult
pub mod Inside
