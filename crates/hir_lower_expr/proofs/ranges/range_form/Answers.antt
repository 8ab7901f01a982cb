use Rattle.std.proofs.Common.{rules}
use Rattle.hir_lower_builder.specs.Ranges.{range_form}
use Rattle.hir_lower_expr.proofs.ranges.range_form.Goals as goal

pub returns : goal.returns
unfolding range_form
returns g c = rw (← c.made_here-made.ensures) (search rules)
