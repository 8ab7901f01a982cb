pub mod Items
pub mod Answering
pub mod Kinds
pub mod Lower
pub mod Has
