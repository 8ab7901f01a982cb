mod Levels
mod Small
mod ParamRows
mod ItemRows
mod FunctionRows
mod LifetimeRows
