pub mod Arguments
pub mod Entry
pub mod Lists
pub mod Object
pub mod Reading
pub mod ReadBack
