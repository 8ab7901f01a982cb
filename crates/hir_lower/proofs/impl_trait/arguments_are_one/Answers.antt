use Rattle.hir_lower.proofs.Argument.{arguments_are_one as proved}
use Rattle.hir_lower.proofs.impl_trait.arguments_are_one.Goals as goal

pub returns : goal.returns
returns c = proved
