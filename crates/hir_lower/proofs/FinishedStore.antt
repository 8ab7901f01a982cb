-- What is known of the store that a collector hands over.
use Rattle.hir_lower.proofs.GeneratedNames.{once_of}
use Rattle.hir_lower.proofs.Meanings.{definitions_of}
use Rattle.hir_lower.proofs.OneStore.{calls_of}

pub ruleset finished_store = (once_of, definitions_of, calls_of)
