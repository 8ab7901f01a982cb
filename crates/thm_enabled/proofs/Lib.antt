mod Agreed
mod Same
mod Targets
mod Allowed
mod Trees
mod Kept
mod Moved
mod Bodies
mod Theorems
mod Described
pub mod Lowered
pub mod BodySteps
