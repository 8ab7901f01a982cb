pub mod Kids
pub mod TypeKids
mod BoundKids
