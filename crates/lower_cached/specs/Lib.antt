pub mod Questions
pub mod Otherwise
