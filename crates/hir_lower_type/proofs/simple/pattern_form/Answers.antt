use Rattle.std.proofs.Common.{rules}
use Rattle.hir_lower_builder.specs.Types.{pattern_type_form}
use Rattle.hir_lower_type.proofs.simple.pattern_form.Goals as goal

pub returns : goal.returns
unfolding pattern_type_form
returns g c = search rules
