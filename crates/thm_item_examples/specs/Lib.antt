pub mod Trees
pub mod Read
pub mod Expected
pub mod ParamRows
pub mod ItemRows
pub mod FunctionRows
pub mod LifetimeRows
