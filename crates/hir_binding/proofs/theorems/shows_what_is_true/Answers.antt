use Rattle.hir_binding.proofs.Theorem.{shows}
use Rattle.hir_binding.proofs.theorems.shows_what_is_true.Goals as goal

pub returns : goal.returns
returns c = shows
