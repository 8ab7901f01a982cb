pub mod Calls
pub mod Keeps
pub mod PathSeen
pub mod PatNames
pub mod Statements
pub mod Grading
pub mod Grades
pub mod Silent
