pub mod LowerCtx
pub mod Rules
pub mod Theorems
pub mod OneItem
