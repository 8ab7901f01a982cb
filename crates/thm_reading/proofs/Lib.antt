pub mod Motives
mod Bare
mod Parts
mod Same
mod TypeForms
mod Called
mod PatForms
pub mod Alone
mod Held
mod Decided
mod TakenItems
mod Ranges
pub mod Targets
mod ExprForms
pub mod Tree
pub mod Formals
mod Sizes
mod Below
mod OneTypes
mod OnePats
mod OneExprs
mod OneBlocks
pub mod One
pub mod OneFormals
mod OneDecided
