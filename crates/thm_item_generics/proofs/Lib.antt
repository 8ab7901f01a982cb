pub mod Held
pub mod Logic
pub mod Items
pub mod Theorems
pub mod AskedLogic
pub mod AskedItems
pub mod AskedTheorems
