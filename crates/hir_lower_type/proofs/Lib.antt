pub mod Here
pub mod AtNodes
pub mod BoundsExist
pub mod CallLemmas
pub mod Params
pub mod Behind
