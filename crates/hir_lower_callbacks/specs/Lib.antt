pub mod ResolveCtxs
pub mod Nests
