use Rattle.std.proofs.Common.{arith}
use Rattle.std.proofs.lemmas.Grind.{common_steps}
use Rattle.hir_lower_builder.specs.Paths.{whole}
use Rattle.hir_lower_path.proofs.path.whole_path.Goals as goal

pub returns-in_default : goal.returns-in_default
unfolding whole
returns-in_default g c = grind (arith, common_steps)

pub own_segments-requires-clause-parts : goal.own_segments-requires-clause-parts
unfolding whole
own_segments-requires-clause-parts g c = grind (arith, common_steps)

pub returns-in-Ok-Open : goal.returns-in-Ok-Open
unfolding whole
returns-in-Ok-Open g c = grind (arith, common_steps)

pub outer_segments-requires-clause-outer : goal.outer_segments-requires-clause-outer
unfolding whole
outer_segments-requires-clause-outer g c = grind (arith, common_steps)

pub outer_segments-requires-clause-walk : goal.outer_segments-requires-clause-walk
unfolding whole
outer_segments-requires-clause-walk g c = grind (arith, common_steps)
