use Rattle.std.proofs.Common.{rules}
use Rattle.hir_lower_builder.specs.Lower.{constant_form}
use Rattle.hir_lower_callbacks.proofs.constant.rooted_constant.Goals as goal

pub returns : goal.returns
unfolding constant_form
returns g c = search rules
