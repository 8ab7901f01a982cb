use Rattle.hir_binding.proofs.Recent.{shown_alike}
use Rattle.hir_binding.proofs.theorems.ends_over_recent.Goals as goal

pub returns : goal.returns
returns c = shown_alike
