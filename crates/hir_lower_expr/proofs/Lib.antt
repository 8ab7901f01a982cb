pub mod CallLemmas
pub mod ConditionLemmas
pub mod ContentLemmas
pub mod DefinitionLemmas
pub mod Owning
pub mod RunLemmas
pub mod SpliceLemmas
pub mod StatementLemmas
