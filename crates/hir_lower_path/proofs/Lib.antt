pub mod Ends
pub mod Found
pub mod Outputs
pub mod Sugar
pub mod Rooted
