pub mod Framing
pub mod Motives
mod Bare
mod Parts
pub mod Asks
mod ItemForms
mod Called
mod TypeForms
mod PatForms
mod TargetForms
mod ExprForms
pub mod Tree
pub mod Bodies
