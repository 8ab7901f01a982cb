pub mod Reads
pub mod Walk
pub mod Steps
pub mod Sets
pub mod Upvars
