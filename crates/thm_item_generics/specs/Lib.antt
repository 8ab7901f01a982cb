pub mod Fold
pub mod Tracked
pub mod Theorems
pub mod Words
pub mod AskedFold
pub mod Asked
pub mod AskedTheorems
