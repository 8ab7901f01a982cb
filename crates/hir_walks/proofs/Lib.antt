pub mod PatLemmas
pub mod ConstantLemmas
pub mod RootLemmas
pub mod VisitLemmas
pub mod WholeLemmas
