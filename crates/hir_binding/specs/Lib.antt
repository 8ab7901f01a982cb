pub mod Uses
pub mod Rule
pub mod Steps
pub mod Theorems
pub mod Seen
pub mod Bindings
pub mod Entries
