pub mod Framing
pub mod Claims
mod Parts
pub mod Asks
mod ItemForms
mod TargetForms
mod Called
mod TypeForms
mod PatForms
mod ExprForms
pub mod Tree
pub mod Bodies
pub mod Files
pub mod Forms
mod PathForms
